use Rattle.std.proofs.Common.{◌≡◌}
use Rattle.sal_filter.specs.Blocks.{horizontal_edge, fourths}
use Rattle.sal_filter.proofs.block.filter_inner_horizontals.Given as goal

abbrev pub invariant-loop-k : goal.invariant-loop-k
invariant-loop-k l = l.samples ≡ fourths (horizontal_edge l.edge l.square) l.k l.fn.samples
