-- Places in a plane.
use Rattle.std.proofs.Common.{◌≡◌, ◌∙◌, sym, ap, refl, arith, ℕ, suc, zero, ◌≢◌, Bool, ◌-ℤ◌, ◌≤ℤ◌, neg_ℤ, FitsSigned, w32, ◌+◌, ◌-◌, ◌*◌, ◌<◌, ◌≤◌, ℤ, pos, negsuc, ◌+ℤ◌, List, length, get_or, drop, take, to_z, of_z, w64, subst, mul_comm, mul-le-mul_right, length-take, length-drop}
use Rattle.std.specs.Prelude.{unsigned_abs}
use Rattle.std.proofs.lemmas.List.{get_or-drop}
use Rattle.std.proofs.lemmas.Slice.{between_to_end}
use Rattle.std.proofs.lemmas.Int.{ints}
use Rattle.std.proofs.lemmas.Nat.{row_fits}
use Rattle.sal_base.specs.declared.picture.Plane.{Plane}
use Rattle.sal_inter.specs.Inter.{place_in, sample, HasSamples, whole_of, fraction_of}
use Rattle.sal_inter.specs.Windows.{nearest, IsPlace, IsSpan}
use Rattle.sal_inter.specs.declared.span.Span.{Span}
use Rattle.sal_inter.proofs.Blocks.{part_long, part_at}

-- a number as it is passed
abbrev pub as_passed : ℤ → ℤ
as_passed z = to_z w64 (of_z w64 z)

pub kept : (z : ℤ) → IsPlace z → as_passed z ≡ z
kept z h = omega (arith, ints)

place_below : (side : ℕ) (z : ℤ) → 1 ≤ side → place_in side z < side
place_below side (pos n) h = omega arith
place_below side (negsuc n) h = omega arith

pub kept_sum : (z : ℤ) (n : ℕ) → IsPlace z → n < 32 → as_passed (as_passed z +ℤ to_z w64 n) ≡ as_passed z +ℤ pos n
kept_sum z n h few = omega (arith, ints)

-- the nearest samples of a row are those of the plane
pub row_nearest : (p : Plane) (samples : List ℕ) (y : ℕ) (column row : ℤ) → HasSamples p → samples ≡ p.samples → y ≡ place_in p.height row
    → nearest (take (p.width * y + p.width - p.width * y) (drop (p.width * y) samples)) column ≡ sample p column row
row_nearest p samples y column row has is at =
    let below : y < p.height = subst (λ (n : ℕ). n < p.height) (sym at) (place_below p.height row has.high) in
    let long : length samples ≡ p.width * p.height = ap (λ (xs : List ℕ). length xs) is ∙ has.samples in
    let fits : y * p.width + p.width ≤ p.height * p.width = row_fits y p.width p.height p.width below (omega arith) in
    let part : List ℕ = take (p.width * y + p.width - p.width * y) (drop (p.width * y) samples) in
    let few : length part ≡ p.width = part_long (p.width * y) p.width samples (omega arith) in
    let x : ℕ = place_in p.width column in
    let turned : p.width * place_in p.height row ≡ place_in p.height row * p.width = mul_comm p.width (place_in p.height row) in
    ap (λ (n : ℕ). get_or part (place_in n column) 0) few
    ∙ (part_at (p.width * y) p.width x samples (place_below p.width column has.wide)
    ∙ (ap (λ (xs : List ℕ). get_or xs (p.width * y + x) 0) is
    ∙ ap (λ (m : ℕ). get_or p.samples (m + x) 0) (ap (λ (n : ℕ). p.width * n) at ∙ turned)))

-- what a block reads without a fraction, and with one
pub span_without : (place : ℤ) (side : ℕ) (eighths : Bool) (component : ℤ) (k : ℕ) (start : ℤ) → k ≡ 0 → k ≡ fraction_of eighths component → start ≡ place +ℤ whole_of eighths component → IsPlace start
    → IsSpan place side eighths component (record { start = start; count = side; fraction = k })
span_without place side eighths component zero start none is at fits = record { fraction = is; start = omega (arith, ints); reads = record { fraction = omega arith; count = omega arith; start = fits } }
span_without place side eighths component (suc k) start none is at fits = absurd (omega arith)

pub span_with : (place : ℤ) (side : ℕ) (eighths : Bool) (component : ℤ) (k : ℕ) (start : ℤ) → k ≢ 0 → k < 8 → k ≡ fraction_of eighths component → start ≡ (place +ℤ whole_of eighths component) -ℤ pos 2
    → IsPlace start → IsSpan place side eighths component (record { start = start; count = side + 5; fraction = k })
span_with place side eighths component zero start some small is at fits = absurd (some refl)
span_with place side eighths component (suc k) start some small is at fits = record { fraction = is; start = at; reads = record { fraction = small; count = refl; start = fits } }

-- two passes on the way change nothing
pub start_is : (place whole way : ℤ) → FitsSigned w32 place → way ≡ whole → (neg_ℤ (pos 32768) ≤ℤ way) × (way ≤ℤ pos 32768)
    → as_passed (as_passed (as_passed (to_z w32 (of_z w32 place)) +ℤ as_passed way) -ℤ pos 2) ≡ (place +ℤ whole) -ℤ pos 2
start_is place whole way fits e small = omega (arith, ints)

pub start_fits : (place way : ℤ) → FitsSigned w32 place → (neg_ℤ (pos 32768) ≤ℤ way) × (way ≤ℤ pos 32768)
    → IsPlace (as_passed (as_passed (as_passed (to_z w32 (of_z w32 place)) +ℤ as_passed way) -ℤ pos 2))
start_fits place way fits small = (omega (arith, ints), omega (arith, ints))

-- the same with no fraction
pub whole_is : (place whole way : ℤ) → FitsSigned w32 place → way ≡ whole → (neg_ℤ (pos 32768) ≤ℤ way) × (way ≤ℤ pos 32768)
    → as_passed (as_passed (to_z w32 (of_z w32 place)) +ℤ as_passed way) ≡ place +ℤ whole
whole_is place whole way fits e small = omega (arith, ints)

pub whole_fits : (place way : ℤ) → FitsSigned w32 place → (neg_ℤ (pos 32768) ≤ℤ way) × (way ≤ℤ pos 32768) → IsPlace (as_passed (as_passed (to_z w32 (of_z w32 place)) +ℤ as_passed way))
whole_fits place way fits small = (omega (arith, ints), omega (arith, ints))

-- a place in the plane as it is indexed
abbrev pub as_index : ℤ → ℕ
as_index z = unsigned_abs (as_passed z)

pub index_of : (z : ℤ) → pos 0 ≤ℤ z → IsPlace z → z ≡ pos (as_index z)
index_of z low fits = omega (arith, ints)

-- a window in the plane starts and ends where its samples end, or before
pub window_starts : (w h l t columns rows : ℕ) → t + rows ≤ h → l + columns ≤ w → 1 ≤ rows → t * w + l ≤ w * h
window_starts w h l t columns rows down across some =
    let all : t * w + w ≤ h * w = row_fits t w h w (omega arith) (omega arith) in
    let turned : w * h ≡ h * w = mul_comm w h in
    omega arith

pub window_fits : (w h l t columns rows at long rest : ℕ) → long ≡ w * h → rest + at ≡ long → at ≡ t * w + l → t + rows ≤ h → l + columns ≤ w → rows * w + columns ≤ rest + w
window_fits w h l t columns rows at long rest is left starts down across =
    let all : (t + rows) * w ≤ h * w = mul-le-mul_right w down in
    let turned : w * h ≡ h * w = mul_comm w h in
    omega arith

-- a sample of it
pub sample_inside : (p : Plane) (samples : List ℕ) (l t r c : ℕ) (x y : ℤ) → samples ≡ p.samples → x ≡ pos l → y ≡ pos t → l + c < p.width → t + r < p.height
    → get_or samples ((t * p.width + l) + (r * p.width + c)) 0 ≡ sample p (x +ℤ pos c) (y +ℤ pos r)
sample_inside p samples l t r c x y is ex ey column row =
    let down : t + r ≡ place_in p.height (pos (t + r)) = omega arith in
    let across : l + c ≡ place_in p.width (pos (l + c)) = omega arith in
    let places : (t * p.width + l) + (r * p.width + c) ≡ (t + r) * p.width + (l + c) = omega arith in
    let here : get_or samples ((t * p.width + l) + (r * p.width + c)) 0 ≡ get_or p.samples (place_in p.height (pos (t + r)) * p.width + place_in p.width (pos (l + c))) 0 =
    ap (λ (xs : List ℕ). get_or xs ((t * p.width + l) + (r * p.width + c)) 0) is
    ∙ (ap (λ (i : ℕ). get_or p.samples i 0) places
    ∙ (ap (λ (i : ℕ). get_or p.samples (i * p.width + (l + c)) 0) down ∙ ap (λ (i : ℕ). get_or p.samples (place_in p.height (pos (t + r)) * p.width + i) 0) across)) in
    here ∙ (ap (λ (z : ℤ). sample p (z +ℤ pos c) (pos t +ℤ pos r)) (sym ex) ∙ ap (λ (z : ℤ). sample p (x +ℤ pos c) (z +ℤ pos r)) (sym ey))

-- of a slice from there on
pub rest_inside : (p : Plane) (samples : List ℕ) (at l t r c : ℕ) (x y : ℤ) → samples ≡ p.samples → at ≡ t * p.width + l → x ≡ pos l → y ≡ pos t → l + c < p.width → t + r < p.height
    → get_or (take (length samples - at) (drop at samples)) (r * p.width + c) 0 ≡ sample p (x +ℤ pos c) (y +ℤ pos r)
rest_inside p samples at l t r c x y is starts ex ey column row =
    ap (λ (xs : List ℕ). get_or xs (r * p.width + c) 0) (between_to_end samples at (length samples) (omega arith))
    ∙ (get_or-drop at samples (r * p.width + c) 0
    ∙ (ap (λ (i : ℕ). get_or samples (i + (r * p.width + c)) 0) starts ∙ sample_inside p samples l t r c x y is ex ey column row))

pub rest_long : (samples : List ℕ) (at : ℕ) → at ≤ length samples → length (take (length samples - at) (drop at samples)) + at ≡ length samples
rest_long samples at h = simp (length-take, length-drop) (omega arith)

-- a span of numbers that were passed
pub span_passed : (x x' : ℤ) (side : ℕ) (eighths : Bool) (component component' : ℤ) (s : Span) → x ≡ x' → component ≡ component' → IsSpan x side eighths component s → IsSpan x' side eighths component' s
span_passed x x' side eighths component component' s ex ec is =
    subst (λ (z : ℤ). IsSpan z side eighths component' s) ex (subst (λ (z : ℤ). IsSpan x side eighths z s) ec is)
