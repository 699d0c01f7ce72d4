use Rattle.std.proofs.Common.{refl, arith}
use Rattle.sal_search.specs.Costs.{sad}
use Rattle.sal_search.proofs.Sums.{sad_part, sad_so_far}
use Rattle.sal_search.proofs.Choices.{is_not_below}
use Rattle.sal_search.proofs.sad.sad_below.Goals as goal

pub loop-part-init : goal.loop-part-init
unfolding sad
loop-part-init c = record { value = refl; small = omega arith; below = λ h. omega (arith, h) }

pub returns-then-total-limit-clause-value : goal.returns-then-total-limit-clause-value
returns-then-total-limit-clause-value c =
    let part = sad_part _ _ _ _ _ 64 _ _ _ (omega arith) (omega arith) (omega arith) refl refl c.loop-part.invariant.value c.sad_64-total.ensures.value in
    let so_far = sad_so_far _ _ _ _ part in
    is_not_below _ _ _ (omega (arith, so_far, c.if-total-limit.true))

pub loop-part-preserved : goal.loop-part-preserved
loop-part-preserved c = record {
  value = sad_part _ _ _ _ _ 64 _ _ _ (omega arith) (omega arith) (omega arith) refl refl c.loop-part.invariant.value c.sad_64-total.ensures.value;
  small = omega (arith, c.sad_64-total.ensures.small, c.loop-part.invariant.small);
  below = λ h. omega (arith, c.if-total-limit.false);
}
