use Rattle.std.proofs.Common.{ap, ◌∙◌, ◌++◌, ◌∷◌}
use Rattle.sal_desk.proofs.Back.{back_of_one}
use Rattle.sal_desk.proofs.tests.end.Goals as goal

pub close-history-requires-clause-back : goal.close-history-requires-clause-back
close-history-requires-clause-back g c =
    let joined = c.join.ensures.joined in
    let acted = c.act-reply.ensures.acted in
    let first = c.requires.first in
    let second = c.requires.second in
    back_of_one _ c.args.second.own _ (ap (λ o. o.name) acted.own ∙ (ap (λ o. o.name) joined.own ∙ first.1)) (ap (λ o. o.splits) acted.own ∙ (ap (λ o. o.splits) joined.own ∙ first.2)) second.1 second.2
    (acted.joined ∙ (joined.joined ∙ (ap (λ l. l ++ c.args.second.own ∷ c.args.second.joined) first.3 ∙ ap (λ l. c.args.second.own ∷ l) second.3)))
