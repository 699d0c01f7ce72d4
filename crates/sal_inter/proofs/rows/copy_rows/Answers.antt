use Rattle.std.proofs.Common.{◌≡◌, ◌+◌, ◌*◌, ◌<◌, ◌≤◌, ◌∙◌, ℕ, List, ap, get_or, length, arith}
use Rattle.std.proofs.lemmas.Nat.{row_fits}
use Rattle.sal_inter.specs.Taps.{placed}
use Rattle.sal_inter.proofs.Blocks.{rows_more, part_long, part_at}
use Rattle.sal_inter.proofs.rows.copy_rows.Goals as goal

pub loop-row-preserved : goal.loop-row-preserved
loop-row-preserved c =
    let a = c.args in
    let fits : c.loop-row.row * a.width + a.width ≤ a.height * a.width = row_fits c.loop-row.row a.width a.height a.width (omega arith) (omega arith) in
    let long : length c.copy_from_slice.new.self ≡ a.width = c.copy_from_slice.ensures.len ∙ part_long (c.loop-row.row * a.width) a.width c.loop-row.out (omega arith) in
    rows_more a.width c.loop-row.row _ c.loop-row.out c.copy_from_slice.new.self (placed a.samples.now a.stride) (omega arith) long
    c.loop-row.invariant (λ (i : ℕ) (h : i < a.width). ap (λ (xs : List ℕ). get_or xs i 0) c.copy_from_slice.ensures.after ∙ part_at (c.loop-row.row * a.stride) a.width i a.samples.now h)
