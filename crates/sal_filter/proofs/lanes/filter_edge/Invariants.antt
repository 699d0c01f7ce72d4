use Rattle.std.proofs.Common.{◌≡◌, ◌*◌}
use Rattle.sal_filter.specs.Filtered.{edge_filtered}
use Rattle.sal_filter.proofs.lanes.filter_edge.Given as goal

abbrev pub invariant-loop-part : goal.invariant-loop-part
invariant-loop-part l = l.samples ≡ edge_filtered l.edge l.at l.step l.along (8 * l.part) l.fn.samples
