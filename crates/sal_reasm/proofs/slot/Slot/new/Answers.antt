use Rattle.std.proofs.Common.{◌≡◌, ◌∙◌, ◌≤◌, ℕ, List, Option, length, ap, sym, subst, arith, replicate, None}
use Rattle.std.proofs.lemmas.List.{length-replicate}
use Rattle.sal_base.specs.Lists.{Each}
use Rattle.sal_reasm.specs.Step.{gaps, IsShort}
use Rattle.sal_reasm.proofs.Parts.{gaps_none, none_short}
use Rattle.sal_reasm.proofs.slot.Slot.new.Goals as goal

pub invariant_of-result : goal.invariant_of-result
invariant_of-result c = (
  sym (ap gaps c.in_ok-no_parts.ensures ∙ gaps_none c.from-count.result),
  (
    omega (arith, ap length c.in_ok-no_parts.ensures, length-replicate {A = Option (List ℕ)} c.from-count.result None, c.from-count.ensures, c.requires.count_below),
    subst (Each IsShort) (sym c.in_ok-no_parts.ensures) (none_short c.from-count.result),
  ),
)
