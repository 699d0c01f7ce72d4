use Rattle.std.proofs.Common.{ap, ◌∙◌, ◌++◌}
use Rattle.sal_journal.proofs.WordLemmas.{joined_all}
use Rattle.sal_journal.proofs.writing.join.Goals as goal

pub returns : goal.returns
returns c =
    joined_all (λ word. word.now) _ _ _ _ _ _ c.in-Some.ensures.cases.0 (c.in_ok-extend.ensures ∙ ap (λ text. text ++ c.in-Some.first.now.now) c.new-text.ensures) c.loop-word-test.false c.loop-word.invariant
