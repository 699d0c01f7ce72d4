use Rattle.std.proofs.Common.{[]}
use Rattle.sal_bool.specs.Written.{steps}
use Rattle.sal_encode.specs.FrameBytes.{modes_pairs}
use Rattle.sal_encode.proofs.ModesWritten.{InRow, Between}
use Rattle.sal_encode.proofs.first.write_modes.Given as goal

abbrev pub invariant-loop-column : goal.invariant-loop-column
invariant-loop-column l = InRow l.header l.probs l.columns l.rows l.modes (steps l.fn.encoder (modes_pairs l.header l.probs l.columns l.rows [] l.modes)) l.row l.column l.context l.encoder

abbrev pub invariant-loop-row : goal.invariant-loop-row
invariant-loop-row l = Between l.header l.probs l.columns l.rows l.modes (steps l.fn.encoder (modes_pairs l.header l.probs l.columns l.rows [] l.modes)) l.row l.context l.encoder
