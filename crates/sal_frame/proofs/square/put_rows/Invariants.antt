use Rattle.std.proofs.Common.{◌≡◌}
use Rattle.sal_base.specs.Samples.{rows_put}
use Rattle.sal_frame.proofs.square.put_rows.Given as goal

abbrev pub invariant-loop-row : goal.invariant-loop-row
invariant-loop-row l = l.samples ≡ rows_put l.width l.x l.y l.side l.block l.row l.fn.samples
