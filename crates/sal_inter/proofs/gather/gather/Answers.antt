use Rattle.std.proofs.Common.{◌≡◌, ◌+◌, ◌*◌, ◌<◌, ◌≤◌, ◌∙◌, ◌/◌, ◌%◌, ℕ, ℤ, ap, length, arith, mul_comm, pos, ◌+ℤ◌}
use Rattle.std.proofs.lemmas.Nat.{row_fits}
use Rattle.sal_inter.specs.Inter.{sample, place_in}
use Rattle.sal_inter.proofs.Blocks.{rows_more, part_long}
use Rattle.sal_inter.proofs.Places.{as_passed, kept, kept_sum, row_nearest}
use Rattle.sal_inter.proofs.gather.gather.Goals as goal

pub loop-row-preserved : goal.loop-row-preserved
loop-row-preserved c =
    let a = c.args in
    let fits : c.loop-row.row * a.width + a.width ≤ a.height * a.width = row_fits c.loop-row.row a.width a.height a.width (omega arith) (omega arith) in
    let long : length c.gather_row.new.out ≡ a.width = c.gather_row.auto.out ∙ part_long (c.loop-row.row * a.width) a.width c.loop-row.out (omega arith) in
    rows_more a.width c.loop-row.row _ c.loop-row.out c.gather_row.new.out (λ row column. sample a.plane.now (as_passed a.left +ℤ pos column) (as_passed a.top +ℤ pos row)) (omega arith) long
    c.loop-row.invariant (λ (i : ℕ) (h : i < a.width). c.gather_row.ensures i (omega arith)
    ∙ row_nearest a.plane.now _ _ (as_passed a.left +ℤ pos i) (as_passed a.top +ℤ pos c.loop-row.row) c.requires.plane c.samples_of-samples.ensures.samples
    (c.place_in.ensures.value ∙ ap (λ (z : ℤ). place_in a.plane.now.height z) (kept_sum a.top c.loop-row.row c.requires.top (omega arith))))

pub returns-clause-samples : goal.returns-clause-samples
returns-clause-samples c = λ k h.
    let a = c.args in
    let all : c.loop-row.row ≡ a.height = omega arith in
    let long : c.loop-row.row * a.width ≡ a.width * a.height = ap (λ (n : ℕ). n * a.width) all ∙ mul_comm a.height a.width in
    c.loop-row.invariant k (omega arith)
    ∙ (ap (λ (z : ℤ). sample a.plane.now (z +ℤ pos (k % a.width)) (as_passed a.top +ℤ pos (k / a.width))) (kept a.left c.requires.left)
    ∙ ap (λ (z : ℤ). sample a.plane.now (a.left +ℤ pos (k % a.width)) (z +ℤ pos (k / a.width))) (kept a.top c.requires.top))
