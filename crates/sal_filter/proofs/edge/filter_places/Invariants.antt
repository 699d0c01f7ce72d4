use Rattle.std.proofs.Common.{◌≡◌}
use Rattle.sal_filter.specs.Filtered.{edge_filtered}
use Rattle.sal_filter.proofs.edge.filter_places.Given as goal

abbrev pub invariant-loop-n : goal.invariant-loop-n
invariant-loop-n l = l.samples ≡ edge_filtered l.limits l.at l.step l.along l.n l.fn.samples
