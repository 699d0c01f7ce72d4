use Rattle.std.proofs.Common.{ℕ, ◌*◌, ◌+ℤ◌, pos}
use Rattle.sal_inter.specs.Inter.{sample}
use Rattle.sal_inter.proofs.Blocks.{BlockTo}
use Rattle.sal_inter.proofs.gather.gather.Given as goal

abbrev pub invariant-loop-row : goal.invariant-loop-row
invariant-loop-row l = BlockTo l.width (l.row * l.width) l.out (λ (row column : ℕ). sample l.plane (l.left +ℤ pos column) (l.top +ℤ pos row))
