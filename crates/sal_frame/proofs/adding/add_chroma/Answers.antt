use Rattle.std.proofs.Common.{◌≡◌, ◌∙◌, ◌+◌, ◌-◌, ◌*◌, ◌≤◌, length, arith}
use Rattle.sal_frame.proofs.Sums.{chroma_row, part_length, mid_length}
use Rattle.sal_frame.proofs.adding.add_chroma.Goals as goal

pub loop-row-preserved : goal.loop-row-preserved
loop-row-preserved c =
    let many : (8 * c.loop-row.row + 8) - 8 * c.loop-row.row ≡ 8 = omega arith in
    let room : 8 * c.loop-row.row + ((8 * c.loop-row.row + 8) - 8 * c.loop-row.row) ≤ length c.loop-row.samples = omega arith in
    let line = c.add_row.auto.line ∙ mid_length _ _ c.loop-row.samples room in
    record {
      long = part_length _ _ 64 _ _ room line c.loop-row.invariant.long;
      rows = chroma_row c.loop-row.row _ c.loop-row.samples c.args.samples.now c.add_row.new.line c.args.residues.now c.loop-row.invariant.long c.loop-row-test.true many (line ∙ many) c.add_row.ensures c.loop-row.invariant.rows;
    }
