use Rattle.std.proofs.Common.{refl, arith}
use Rattle.sal_search.specs.Costs.{sad}
use Rattle.sal_search.proofs.Sums.{sad_step}
use Rattle.sal_search.proofs.sad.sad_16.Goals as goal

pub loop-k-init : goal.loop-k-init
unfolding sad
loop-k-init c = record { value = refl; small = omega arith }

pub loop-k-preserved : goal.loop-k-preserved
loop-k-preserved c = record {
  value = sad_step _ _ _ _ _ (omega arith) (omega arith) c.loop-k.invariant.value c.abs_diff.ensures;
  small = omega arith;
}
