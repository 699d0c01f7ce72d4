use Rattle.std.proofs.Common.{◌+◌, ◌*◌, ◌/◌, pos, true, arith}
use Rattle.sal_inter.specs.Inter.{inter_sample}
use Rattle.sal_frame.specs.Built.{quarter_vector}
use Rattle.sal_frame.proofs.Means.{chroma_part_at}
use Rattle.sal_frame.proofs.Parts.{chroma_more}
use Rattle.sal_frame.proofs.inter.chroma_by_parts.Goals as goal

pub loop-n-preserved : goal.loop-n-preserved
loop-n-preserved c =
    chroma_more c.loop-n.n (λ row column. inter_sample c.args.reference.now (quarter_vector c.args.vectors.now (8 * (row / 4) + 2 * (column / 4))) true (pos (c.args.x + column)) (pos (c.args.y + row)))
    c.part-part.result c.loop-n.samples _ c.loop-n-test.true (omega arith) c.loop-n.invariant
    (λ k lt. chroma_part_at c.args.reference.now c.args.vectors.now c.mean_vector-vector.result c.args.x c.args.y c.loop-n.n k c.part-part.result c.loop-n-test.true lt c.mean_vector-vector.ensures c.part-part.ensures)
    c.put_rows.ensures
