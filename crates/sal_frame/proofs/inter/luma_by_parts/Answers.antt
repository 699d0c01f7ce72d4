use Rattle.std.proofs.Common.{◌+◌, ◌*◌, ◌/◌, pos, false, arith}
use Rattle.sal_macroblock.specs.Macroblocks.{vector_at}
use Rattle.sal_inter.specs.Inter.{inter_sample}
use Rattle.sal_frame.proofs.Means.{luma_part_at}
use Rattle.sal_frame.proofs.Parts.{luma_more}
use Rattle.sal_frame.proofs.inter.luma_by_parts.Goals as goal

pub loop-n-preserved : goal.loop-n-preserved
loop-n-preserved c =
    luma_more c.loop-n.n (λ row column. inter_sample c.args.reference.now (vector_at c.args.vectors.now (4 * (row / 4) + column / 4)) false (pos (c.args.x + column)) (pos (c.args.y + row)))
    c.part-part.result c.loop-n.samples _ c.loop-n-test.true (omega arith) c.loop-n.invariant
    (λ k lt. luma_part_at c.args.reference.now c.args.vectors.now c.args.x c.args.y c.loop-n.n k c.part-part.result c.loop-n-test.true lt c.part-part.ensures)
    c.put_rows.ensures
