use Rattle.std.proofs.Common.{◌∙◌, ◌<◌, ◌≤◌, length, arith, sym}
use borrow.Author.Tests.{ltb-true, ltb-false}
use Rattle.sal_words.proofs.VerbLemmas.{not_three, sent}
use Rattle.sal_words.proofs.verb.read_send.Goals.{in_default-via-then-branch-lt3, in_default-via-else-branch-lt3+else-this-lt4}
use Rattle.sal_words.proofs.verb.read_send.Goals as goal

pub returns : goal.returns
returns c = λ s says. sent c.in_ok-names.field-0.now _ s c.args.matches.now says c.in_ok-names.ensures _ _ c.in-len3.len_at_least c.in-len3.len_below c.read_address.ensures c.in_ok-to.was

pub returns-in_default : goal.returns-in_default
returns-in_default c = λ s says. sym (not_three c.in_ok-names.field-0.now s.names _ (c.in_ok-names.ensures ∙ says.names)
    (λ e. elim c.in_default.branch [
      | in_default-via-then-branch-lt3 w ↦ let few : length c.in_ok-names.field-0.now < 3 = ltb-true _ _ w.if-branch-lt3-1.true in omega arith
      | in_default-via-else-branch-lt3+else-this-lt4 w ↦ let many : 4 ≤ length c.in_ok-names.field-0.now = ltb-false _ _ w.if-this-lt4-1.false in omega arith
    ]))
