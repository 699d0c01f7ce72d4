-- Blocks out of windows are the blocks of the definition.
use Rattle.std.proofs.Common.{◌≡◌, ◌∙◌, sym, ap, refl, arith, ℕ, suc, zero, ◌+◌, ◌*◌, ◌/◌, ◌%◌, ◌<◌, ◌≤◌, Bool, ℤ, pos, ◌+ℤ◌, ◌-ℤ◌, List, mul_comm}
use Rattle.std.proofs.lemmas.Int.{ints}
use Rattle.std.proofs.lemmas.Nat.{mod_below, div_below, mul-add-lt}
use Rattle.sal_base.specs.Samples.{IsBlockOf}
use Rattle.sal_base.specs.declared.picture.Plane.{Plane}
use Rattle.sal_base.specs.declared.kinds.Vector.{Vector}
use Rattle.sal_inter.specs.Inter.{sample, interpolated, inter_sample, whole_of, fraction_of}
use Rattle.sal_inter.specs.Taps.{placed}
use Rattle.sal_inter.specs.Windows.{taken, taken_both, reach, before, Reads, IsSpan, IsWindow, AreBytes, window_sample}
use Rattle.sal_inter.specs.declared.span.Span.{Span}
use Rattle.sal_inter.proofs.Weighing.{six_identity, six_small, same_six}
use Rattle.sal_inter.proofs.Between.{at_place}

taken_same : (k : ℕ) (f g : ℕ → ℕ) (n : ℕ) → ((i : ℕ) → i ≤ n + reach k → f i ≡ g i) → taken k f n ≡ taken k g n
taken_same zero f g n h = h n (omega arith)
taken_same (suc k) f g n h = same_six (suc k) (h n (omega arith)) (h (n + 1) (omega arith)) (h (n + 2) (omega arith)) (h (n + 3) (omega arith)) (h (n + 4) (omega arith)) (h (n + 5) (omega arith))

-- rows that hold a window give its block
pub window_taken : (p : Plane) (across down : Span) (samples : List ℕ) (stride width height k : ℕ) → Reads width across → Reads height down → IsWindow p across down samples stride → 1 ≤ width → k < width * height
    → taken_both across.fraction down.fraction (placed samples stride) (k / width) (k % width) ≡ window_sample p across down (k / width) (k % width)
window_taken p across down samples stride width height k ra rd window some lt =
    let column : k % width < width = mod_below k width some in
    let row : k / width < height = div_below k width height some (let turned : width * height ≡ height * width = mul_comm width height in omega arith) in
    taken_same down.fraction _ _ (k / width)
    (λ (r : ℕ) (hr : r ≤ k / width + reach down.fraction).
    taken_same across.fraction _ _ (k % width) (λ (c : ℕ) (hc : c ≤ k % width + reach across.fraction). window r c (omega (arith, rd.count)) (omega (arith, ra.count))))

-- what was gathered is the window
pub gathered_window : (p : Plane) (across down : Span) (samples : List ℕ) (x y : ℤ) → x ≡ across.start → y ≡ down.start
    → IsBlockOf across.count (across.count * down.count) samples (λ row column. sample p (x +ℤ pos column) (y +ℤ pos row)) → IsWindow p across down samples across.count
gathered_window p across down samples x y ex ey block r c hr hc =
    at_place across.count r c (r * across.count + c) _ (λ row column. sample p (x +ℤ pos column) (y +ℤ pos row)) hc refl (block (r * across.count + c) (mul-add-lt r across.count c down.count hr hc))
    ∙ (ap (λ (z : ℤ). sample p (z +ℤ pos c) (y +ℤ pos r)) ex ∙ ap (λ (z : ℤ). sample p (across.start +ℤ pos c) (z +ℤ pos r)) ey)

-- six samples from the first that is read on, or the sample itself, are the interpolated one
taken_interpolated : (k : ℕ) (f : ℤ → ℕ) (z start : ℤ) (n : ℕ) → ((w : ℤ) → f w ≤ 255) → start ≡ z -ℤ before k → taken k (λ (i : ℕ). f (start +ℤ pos i)) n ≡ interpolated k f (z +ℤ pos n)
unfolding interpolated
taken_interpolated zero f z start n small e =
    let same : start +ℤ pos n ≡ z +ℤ pos n = omega (arith, ints) in
    ap f same ∙ sym (six_identity _ _ (f (z +ℤ pos n)) _ _ _ (small (z +ℤ pos n)))
taken_interpolated (suc k) f z start n small e =
    same_six (suc k) (ap f (omega (arith, ints))) (ap f (omega (arith, ints))) (ap f (omega (arith, ints))) (ap f (omega (arith, ints))) (ap f (omega (arith, ints))) (ap f (omega (arith, ints)))

interpolated_small : (k : ℕ) (f : ℤ → ℕ) (z : ℤ) → interpolated k f z ≤ 255
unfolding interpolated
interpolated_small k f z = six_small _ _ _ _ _ _ _

byte : {n : ℕ} → n < 256 → n ≤ 255
byte h = omega arith

-- a block's sample out of its window is the definition's
pub window_inter : (p : Plane) (v : Vector) (eighths : Bool) (x y : ℤ) (width height row column : ℕ) (across down : Span) → AreBytes p.samples
    → IsSpan x width eighths v.column across → IsSpan y height eighths v.row down → window_sample p across down row column ≡ inter_sample p v eighths (x +ℤ pos column) (y +ℤ pos row)
unfolding inter_sample
window_inter p v eighths x y width height row column across down bytes sa sd =
    let f : ℤ → ℤ → ℕ = λ (at : ℤ) (r : ℤ). interpolated across.fraction (λ (c : ℤ). sample p c r) at in
    let left : ℤ = x +ℤ whole_of eighths v.column in
    let top : ℤ = y +ℤ whole_of eighths v.row in
    let rows = taken_same down.fraction _ (λ (r : ℕ). f (left +ℤ pos column) (down.start +ℤ pos r)) row
    (λ (r : ℕ) (h : r ≤ row + reach down.fraction). taken_interpolated across.fraction (λ (c : ℤ). sample p c (down.start +ℤ pos r)) left across.start column (λ (w : ℤ). byte (bytes _)) sa.start) in
    let both = taken_interpolated down.fraction (f (left +ℤ pos column)) top down.start row (λ (w : ℤ). interpolated_small _ _ _) sd.start in
    let column_at : left +ℤ pos column ≡ (x +ℤ pos column) +ℤ whole_of eighths v.column = omega (arith, ints) in
    let row_at : top +ℤ pos row ≡ (y +ℤ pos row) +ℤ whole_of eighths v.row = omega (arith, ints) in
    rows ∙ (both
    ∙ (ap (λ (at : ℤ). interpolated down.fraction (f at) (top +ℤ pos row)) column_at
    ∙ (ap (λ (at : ℤ). interpolated down.fraction (f ((x +ℤ pos column) +ℤ whole_of eighths v.column)) at) row_at
    ∙ (ap (λ (k : ℕ). interpolated k (f ((x +ℤ pos column) +ℤ whole_of eighths v.column)) ((y +ℤ pos row) +ℤ whole_of eighths v.row)) sd.fraction
    ∙ ap (λ (k : ℕ). interpolated (fraction_of eighths v.row) (λ (r : ℤ). interpolated k (λ (c : ℤ). sample p c r) ((x +ℤ pos column) +ℤ whole_of eighths v.column)) ((y +ℤ pos row) +ℤ whole_of eighths v.row)) sa.fraction))))
