use Rattle.std.proofs.Common.{◌∙◌, ◌<◌, ◌≤◌, length, arith, sym}
use borrow.Author.Tests.{ltb-true, ltb-false}
use Rattle.sal_words.proofs.VerbLemmas.{not_four, generated}
use Rattle.sal_words.proofs.verb.read_generate.Goals.{in_default-via-then-branch-lt4, in_default-via-else-branch-lt4+else-this-lt5}
use Rattle.sal_words.proofs.verb.read_generate.Goals as goal

pub returns : goal.returns
returns c = λ s says. generated c.in_ok-names.field-0.now _ s c.args.matches.now says c.in_ok-names.ensures _ _ _ _ _ _ _ _ c.in-len4.len_at_least c.in-len4.len_below c.number.ensures.value c.small.ensures c.side.ensures c.side-2.ensures c.in_ok-start.was c.in_ok-count.was c.in_ok-width.was c.in_ok-height.was

pub returns-in_default : goal.returns-in_default
returns-in_default c = λ s says. sym (not_four c.in_ok-names.field-0.now s.names _ (c.in_ok-names.ensures ∙ says.names)
    (λ e. elim c.in_default.branch [
      | in_default-via-then-branch-lt4 w ↦ let few : length c.in_ok-names.field-0.now < 4 = ltb-true _ _ w.if-branch-lt4-1.true in omega arith
      | in_default-via-else-branch-lt4+else-this-lt5 w ↦ let many : 5 ≤ length c.in_ok-names.field-0.now = ltb-false _ _ w.if-this-lt5-1.false in omega arith
    ]))
