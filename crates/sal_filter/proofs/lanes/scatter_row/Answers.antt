use Rattle.std.proofs.Common.{refl}
use Rattle.sal_filter.proofs.Rows.{row_none, row_more}
use Rattle.sal_filter.proofs.lanes.scatter_row.Goals as goal

pub loop-i-init : goal.loop-i-init
loop-i-init c = row_none _ _ _ _

pub loop-i-preserved : goal.loop-i-preserved
loop-i-preserved c = row_more _ _ _ _ _ _ _ c.loop-i.invariant refl
