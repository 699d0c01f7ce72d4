use Rattle.std.proofs.Common.{◌≡◌, ◌*◌, [], All, true}
use Rattle.sal_bool.specs.Syntax.{run}
use Rattle.sal_macroblock.specs.Macroblocks.{HasFittingModes}
use Rattle.sal_modes.proofs.Raster.{HoldsUpTo}
use Rattle.sal_decode.specs.FirstPartition.{mb_modes}
use Rattle.sal_decode.specs.Standing.{IsIntraKind}
use Rattle.sal_decode.proofs.ModesRead.{Onward, Between}
use Rattle.sal_decode.proofs.modes.read_modes.Given as goal

abbrev pub invariant-loop-column : goal.invariant-loop-column
invariant-loop-column l =
    HoldsUpTo l.columns l.rows l.row l.column l.modes.items l.context
    × Onward l.header l.probs l.columns l.rows (run (mb_modes l.header l.probs l.columns l.rows (l.columns * l.rows) []) l.fn.decoder) l.modes.items l.decoder
    × (All HasFittingModes l.modes.items × (l.header.key ≡ true → All IsIntraKind l.modes.items))

abbrev pub invariant-loop-row : goal.invariant-loop-row
invariant-loop-row l =
    Between l.columns l.rows l.row l.modes.items l.context
    × Onward l.header l.probs l.columns l.rows (run (mb_modes l.header l.probs l.columns l.rows (l.columns * l.rows) []) l.fn.decoder) l.modes.items l.decoder
    × (All HasFittingModes l.modes.items × (l.header.key ≡ true → All IsIntraKind l.modes.items))
