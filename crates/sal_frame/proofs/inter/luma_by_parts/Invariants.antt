use Rattle.std.proofs.Common.{◌+◌, ◌*◌, ◌/◌, pos, false}
use Rattle.sal_macroblock.specs.Macroblocks.{vector_at}
use Rattle.sal_inter.specs.Inter.{inter_sample}
use Rattle.sal_frame.proofs.Parts.{LumaParts}
use Rattle.sal_frame.proofs.inter.luma_by_parts.Given as goal

abbrev pub invariant-loop-n : goal.invariant-loop-n
invariant-loop-n l = LumaParts l.n (λ row column. inter_sample l.reference (vector_at l.vectors (4 * (row / 4) + column / 4)) false (pos (l.x + column)) (pos (l.y + row))) l.samples
