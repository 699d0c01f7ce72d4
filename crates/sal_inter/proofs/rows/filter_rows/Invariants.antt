use Rattle.std.proofs.Common.{◌*◌}
use Rattle.sal_inter.specs.Taps.{filtered}
use Rattle.sal_inter.proofs.Blocks.{BlockTo}
use Rattle.sal_inter.proofs.rows.filter_rows.Given as goal

abbrev pub invariant-loop-row : goal.invariant-loop-row
invariant-loop-row l = BlockTo l.width (l.row * l.width) l.out (filtered l.taps l.samples l.stride l.step)
