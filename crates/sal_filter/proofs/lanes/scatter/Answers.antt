use Rattle.sal_filter.proofs.Rows.{rows_start, rows_next}
use Rattle.sal_filter.proofs.lanes.scatter.Goals as goal

pub loop-k-init : goal.loop-k-init
loop-k-init c = rows_start _ _ _ _ _ _

pub loop-k-preserved : goal.loop-k-preserved
loop-k-preserved c = rows_next _ _ _ _ _ _ _ _ _ c.loop-k.invariant c.scatter_row.ensures
