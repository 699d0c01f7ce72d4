use Rattle.std.proofs.Common.{refl, arith}
use Rattle.sal_base.specs.Samples.{rows_put}
use Rattle.sal_search.proofs.Squares.{rows_more}
use Rattle.sal_search.proofs.subblocks.put_sub.Goals as goal

pub loop-row-init : goal.loop-row-init
unfolding rows_put
loop-row-init c = refl

pub loop-row-preserved : goal.loop-row-preserved
unfolding rows_put
loop-row-preserved c = rows_more 16 c.args.x c.args.y 4 c.args.sub.now c.args.samples.now _ _ c.loop-row.row _ c.loop-row.invariant (omega arith) c.copy_from_slice.ensures.after
