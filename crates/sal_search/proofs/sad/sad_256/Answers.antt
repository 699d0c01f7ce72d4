use Rattle.std.proofs.Common.{refl, arith}
use Rattle.sal_search.specs.Costs.{sad}
use Rattle.sal_search.proofs.Sums.{sad_part}
use Rattle.sal_search.proofs.sad.sad_256.Goals as goal

pub loop-part-init : goal.loop-part-init
unfolding sad
loop-part-init c = record { value = refl; small = omega arith }

pub loop-part-preserved : goal.loop-part-preserved
loop-part-preserved c = record {
  value = sad_part _ _ _ _ _ 64 _ _ _ (omega arith) (omega arith) (omega arith) refl refl c.loop-part.invariant.value c.sad_64-total.ensures.value;
  small = omega (arith, c.sad_64-total.ensures.small, c.loop-part.invariant.small);
}
