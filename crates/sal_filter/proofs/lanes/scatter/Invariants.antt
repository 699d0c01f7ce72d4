use Rattle.std.proofs.Common.{◌≡◌}
use Rattle.sal_filter.specs.Lanes.{rows_put, lane}
use Rattle.sal_filter.proofs.lanes.scatter.Given as goal

abbrev pub invariant-loop-k : goal.invariant-loop-k
invariant-loop-k l = l.samples ≡ rows_put l.from l.step l.along (lane l.lanes) 8 l.k l.fn.samples
