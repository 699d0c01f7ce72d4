use Rattle.std.proofs.Common.{◌≡◌}
use Rattle.sal_filter.specs.Lanes.{row_put, lane}
use Rattle.sal_filter.proofs.lanes.scatter_row.Given as goal

abbrev pub invariant-loop-i : goal.invariant-loop-i
invariant-loop-i l = l.samples ≡ row_put l.from l.along (lane l.lanes l.row) l.i l.fn.samples
