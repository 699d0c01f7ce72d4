use Rattle.std.proofs.Common.{◌≡◌}
use Rattle.sal_filter.specs.Blocks.{vertical_edge, fourths}
use Rattle.sal_filter.proofs.block.filter_inner_verticals.Given as goal

abbrev pub invariant-loop-k : goal.invariant-loop-k
invariant-loop-k l = l.samples ≡ fourths (vertical_edge l.edge l.square) l.k l.fn.samples
