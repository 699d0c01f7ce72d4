use Rattle.std.proofs.Common.{◌≡◌, ◌+◌, ◌*◌, ◌<◌, ◌≤◌, ◌∙◌, sym, ap, ℕ, List, get_or, length, arith}
use Rattle.std.proofs.lemmas.Nat.{row_fits}
use Rattle.sal_inter.specs.Taps.{filtered}
use Rattle.sal_inter.proofs.Blocks.{rows_more, from_rest, part_long}
use Rattle.sal_inter.proofs.rows.filter_rows.Goals as goal

pub loop-row-preserved : goal.loop-row-preserved
loop-row-preserved c =
    let a = c.args in
    let fits : c.loop-row.row * a.width + a.width ≤ a.height * a.width = row_fits c.loop-row.row a.width a.height a.width (omega arith) (omega arith) in
    let long : length c.copy_from_slice.new.self ≡ a.width = c.copy_from_slice.ensures.len ∙ part_long (c.loop-row.row * a.width) a.width c.loop-row.out (omega arith) in
    let now : c.copy_from_slice.new.self ≡ c.filter_row.new.out = c.copy_from_slice.ensures.after in
    let line : length c.filter_row.new.out ≡ a.width = sym (ap (λ (xs : List ℕ). length xs) now) ∙ long in
    rows_more a.width c.loop-row.row _ c.loop-row.out c.copy_from_slice.new.self (filtered a.taps a.samples.now a.stride a.step) (omega arith) long c.loop-row.invariant
    (λ (i : ℕ) (h : i < a.width).
    ap (λ (xs : List ℕ). get_or xs i 0) now ∙ (c.filter_row.ensures i (omega arith) ∙ from_rest a.taps a.samples.now (c.loop-row.row * a.stride) a.step i))
