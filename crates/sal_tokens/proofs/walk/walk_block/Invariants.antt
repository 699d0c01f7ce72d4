use Rattle.std.proofs.Common.{◌≤◌}
use Rattle.sal_tokens.specs.Written.{block_branches}
use Rattle.sal_tokens.proofs.Taking.{Left, rest_of}
use Rattle.sal_tokens.proofs.walk.walk_block.Given as goal

abbrev pub invariant-loop-position : goal.invariant-loop-position
invariant-loop-position g l = record {
  low : l.context ≤ 2;
  left : Left (g.S.Sink.after l.table) l.sink (rest_of l.kind l.first l.position l.context l.after_zero l.block.0) l.fn.sink (block_branches l.fn.kind l.fn.context l.block.0);
}
