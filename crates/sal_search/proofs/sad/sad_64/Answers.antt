use Rattle.std.proofs.Common.{refl, arith}
use Rattle.sal_search.specs.Costs.{sad}
use Rattle.sal_search.proofs.Sums.{sad_part}
use Rattle.sal_search.proofs.sad.sad_64.Goals as goal

pub loop-row-init : goal.loop-row-init
unfolding sad
loop-row-init c = record { value = refl; small = omega arith }

pub loop-row-preserved : goal.loop-row-preserved
loop-row-preserved c = record {
  value = sad_part _ _ _ _ _ 16 _ _ _ (omega arith) (omega arith) (omega arith) refl refl c.loop-row.invariant.value c.sad_16-total.ensures.value;
  small = omega (arith, c.sad_16-total.ensures.small, c.loop-row.invariant.small);
}
