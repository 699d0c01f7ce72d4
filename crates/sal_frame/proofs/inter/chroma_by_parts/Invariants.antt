use Rattle.std.proofs.Common.{◌+◌, ◌*◌, ◌/◌, pos, true}
use Rattle.sal_inter.specs.Inter.{inter_sample}
use Rattle.sal_frame.specs.Built.{quarter_vector}
use Rattle.sal_frame.proofs.Parts.{ChromaParts}
use Rattle.sal_frame.proofs.inter.chroma_by_parts.Given as goal

abbrev pub invariant-loop-n : goal.invariant-loop-n
invariant-loop-n l = ChromaParts l.n (λ row column. inter_sample l.reference (quarter_vector l.vectors (8 * (row / 4) + 2 * (column / 4))) true (pos (l.x + column)) (pos (l.y + row))) l.samples
