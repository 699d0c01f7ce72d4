use Rattle.std.proofs.Common.{codes, decimal, ap, ◌∙◌, ◌++◌, ◌∷◌}
use Rattle.sal_world.specs.LineText.{size_word}
use Rattle.sal_journal.proofs.WordLemmas.{spaced_all}
use Rattle.sal_journal.proofs.writing.nothing_line.Goals as goal

pub returns : goal.returns
returns c =
    spaced_all size_word (codes "nothing") (decimal c.args.budget) _ _ c.in_ok-text.text _ (c.in_ok-text.ensures ∙ ap (λ n. codes "nothing" ++ 32 ∷ decimal n) c.from.ensures) c.loop-size-test.false c.loop-size.invariant
