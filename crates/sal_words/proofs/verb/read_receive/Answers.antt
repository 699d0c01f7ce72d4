use Rattle.std.proofs.Common.{◌∙◌, ◌<◌, ◌≤◌, length, arith, sym}
use borrow.Author.Tests.{ltb-true, ltb-false}
use Rattle.sal_words.proofs.VerbLemmas.{not_two, received}
use Rattle.sal_words.proofs.verb.read_receive.Goals.{in_default-via-then-branch-lt2, in_default-via-else-branch-lt2+else-this-lt3}
use Rattle.sal_words.proofs.verb.read_receive.Goals as goal

pub returns : goal.returns
returns c = λ s says. received c.in_ok-names.field-0.now _ s c.args.matches.now says c.in_ok-names.ensures _ _ c.in-len2.len_at_least c.in-len2.len_below c.read_address.ensures c.in_ok-at.was

pub returns-in_default : goal.returns-in_default
returns-in_default c = λ s says. sym (not_two c.in_ok-names.field-0.now s.names _ (c.in_ok-names.ensures ∙ says.names)
    (λ e. elim c.in_default.branch [
      | in_default-via-then-branch-lt2 w ↦ let few : length c.in_ok-names.field-0.now < 2 = ltb-true _ _ w.if-branch-lt2-1.true in omega arith
      | in_default-via-else-branch-lt2+else-this-lt3 w ↦ let many : 3 ≤ length c.in_ok-names.field-0.now = ltb-false _ _ w.if-this-lt3-1.false in omega arith
    ]))
