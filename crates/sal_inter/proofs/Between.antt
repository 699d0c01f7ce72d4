-- Filtered rows, and columns of filtered rows, as six sums.
use Rattle.std.proofs.Common.{◌≡◌, ◌≢◌, ◌∙◌, ap, refl, arith, ℕ, suc, zero, ◌+◌, ◌*◌, ◌/◌, ◌%◌, ◌<◌, ◌≤◌, List, get_or, subst}
use Rattle.std.proofs.lemmas.Nat.{div-mul-add, mod-mul-add, div-add-mod', mod_below, row_fits}
use Rattle.sal_base.specs.Samples.{IsBlockOf}
use Rattle.sal_inter.specs.Taps.{weighed, weighed_at, filtered, placed, IsFilter}
use Rattle.sal_inter.specs.Windows.{taken, taken_both, filtered_both}
use Rattle.sal_inter.proofs.Blocks.{same_weighed}
use Rattle.sal_inter.specs.declared.taps.Taps.{Taps}

pub at_place : (width row column i : ℕ) (y : ℕ) (f : ℕ → ℕ → ℕ) → column < width → i ≡ row * width + column → y ≡ f (i / width) (i % width) → y ≡ f row column
at_place width row column i y f lt e h =
    subst (λ (r : ℕ). y ≡ f r column) (ap (λ (m : ℕ). m / width) e ∙ div-mul-add row width column lt)
    (subst (λ (c : ℕ). y ≡ f (i / width) c) (ap (λ (m : ℕ). m % width) e ∙ mod-mul-add row width column lt) h)

-- the sample j rows below a place
below : (width height j k : ℕ) (rows : List ℕ) (f : ℕ → ℕ → ℕ) → 1 ≤ width → j ≤ 5 → k < width * height → IsBlockOf width (width * (height + 5)) rows f
    → get_or rows (k + j * width) 0 ≡ f (k / width + j) (k % width)
below width height j k rows f some few lt block =
    let parts : k / width * width + k % width ≡ k = div-add-mod' k width in
    let column : k % width < width = mod_below k width some in
    let more : j * width + width ≤ 6 * width = row_fits j width 6 width (omega arith) (omega arith) in
    at_place width (k / width + j) (k % width) (k + j * width) _ f column (omega arith) (block (k + j * width) (omega arith))

-- six rows of a block through a filter
pub columns_weighed : (t : Taps) (width height k : ℕ) (rows : List ℕ) (f : ℕ → ℕ → ℕ) → 1 ≤ width → k < width * height → IsBlockOf width (width * (height + 5)) rows f
    → weighed_at t rows width k ≡ weighed t (f (k / width) (k % width)) (f (k / width + 1) (k % width)) (f (k / width + 2) (k % width)) (f (k / width + 3) (k % width)) (f (k / width + 4) (k % width)) (f (k / width + 5) (k % width))
columns_weighed t width height k rows f some lt block =
    same_weighed t (block k (omega arith))
    (ap (λ (i : ℕ). get_or rows i 0) (omega arith) ∙ below width height 1 k rows f some (omega arith) lt block)
    (below width height 2 k rows f some (omega arith) lt block) (below width height 3 k rows f some (omega arith) lt block)
    (below width height 4 k rows f some (omega arith) lt block) (below width height 5 k rows f some (omega arith) lt block)

-- a filtered sample of a row is six of it by the filter
across_taken : (k : ℕ) (t : Taps) (samples : List ℕ) (stride row column : ℕ) → IsFilter (suc k) t → filtered t samples stride 1 row column ≡ taken (suc k) (λ c. placed samples stride row c) column
across_taken k t samples stride row column is =
    let moved = λ (i j : ℕ) (e : i ≡ j). ap (λ (m : ℕ). get_or samples m 0) e in
    same_weighed t refl (moved _ _ (omega arith)) (moved _ _ (omega arith)) (moved _ _ (omega arith)) (moved _ _ (omega arith)) (moved _ _ (omega arith)) ∙ is _ _ _ _ _ _

both_taken : (a d : ℕ) (across down : Taps) (samples : List ℕ) (stride row column : ℕ) → IsFilter (suc a) across → IsFilter (suc d) down
    → filtered_both across down samples stride row column ≡ taken_both (suc a) (suc d) (placed samples stride) row column
both_taken a d across down samples stride row column isa isd =
    let at = λ (r : ℕ). across_taken a across samples stride r column isa in
    same_weighed down (at row) (at (row + 1)) (at (row + 2)) (at (row + 3)) (at (row + 4)) (at (row + 5)) ∙ isd _ _ _ _ _ _

pub both_of : (a d : ℕ) (across down : Taps) (samples : List ℕ) (stride row column : ℕ) → a ≢ 0 → d ≢ 0 → IsFilter a across → IsFilter d down
    → filtered_both across down samples stride row column ≡ taken_both a d (placed samples stride) row column
both_of zero d across down samples stride row column na nd isa isd = absurd (na refl)
both_of (suc a) zero across down samples stride row column na nd isa isd = absurd (nd refl)
both_of (suc a) (suc d) across down samples stride row column na nd isa isd = both_taken a d across down samples stride row column isa isd
