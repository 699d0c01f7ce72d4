-- Blocks that grow by a row.
use Rattle.std.proofs.Common.{◌≡◌, ◌∙◌, ap, arith, rules, ℕ, ◌+◌, ◌-◌, ◌*◌, ◌/◌, ◌%◌, ◌<◌, ◌≤◌, List, ◌++◌, length, get_or, drop, take, subst, leb, true, false}
use Rattle.std.proofs.lemmas.Nat.{div-mul-add, mod-mul-add}
use Rattle.std.proofs.lemmas.List.{places, get_or-drop, get_or-take}
use Rattle.std.proofs.lemmas.Slice.{between_to_end}
use Rattle.std.proofs.lemmas.Bool.Decides.{leb_tells}
use mathlib.Core.Logic.{◌⊎◌, inl, inr}
use borrow.Rule.Slice.PartMut.{put_mid}
use Rattle.sal_inter.specs.Taps.{weighed, weighed_at}
use Rattle.sal_inter.specs.declared.taps.Taps.{Taps}

-- the first n samples are those of their rows and columns
abbrev pub BlockTo : ℕ → ℕ → List ℕ → (ℕ → ℕ → ℕ) → Type 0
BlockTo width n samples f = (k : ℕ) → k < n → get_or samples k 0 ≡ f (k / width) (k % width)

in_front : (a k i : ℕ) (xs ys : List ℕ) → a ≤ length xs → i < a → get_or (put_mid a k xs ys) i 0 ≡ get_or xs i 0
in_front a k i xs ys h lt = search (rules, places)

in_middle : (a k i : ℕ) (xs ys : List ℕ) → a ≤ length xs → i < length ys → get_or (put_mid a k xs ys) (a + i) 0 ≡ get_or ys i 0
in_middle a k i xs ys h lt = search (rules, places)

in_row : (width row i y : ℕ) (f : ℕ → ℕ → ℕ) → i < width → y ≡ f row i → y ≡ f ((row * width + i) / width) ((row * width + i) % width)
in_row width row i y f lt h = rw (div-mul-add row width i lt, mod-mul-add row width i lt) h

by_row : (width row n : ℕ) (out part : List ℕ) (f : ℕ → ℕ → ℕ) (k : ℕ) → row * width + width ≤ length out → length part ≡ width → k < row * width + width
    → BlockTo width (row * width) out f → ((i : ℕ) → i < width → get_or part i 0 ≡ f row i)
    → ((leb (row * width) k ≡ true) × (row * width ≤ k)) ⊎ ((leb (row * width) k ≡ false) × (k < row * width))
    → get_or (put_mid (row * width) n out part) k 0 ≡ f (k / width) (k % width)
by_row width row n out part f k fits long lt before here (inl p) =
    let i : ℕ = k - row * width in
    let low : i < width = let h : row * width ≤ k = p.1 in omega arith in
    let place : row * width + i ≡ k = let h : row * width ≤ k = p.1 in omega arith in
    let at : get_or (put_mid (row * width) n out part) (row * width + i) 0 ≡ get_or part i 0 = in_middle (row * width) n i out part (omega arith) (omega arith) in
    subst (λ (m : ℕ). get_or (put_mid (row * width) n out part) m 0 ≡ f (m / width) (m % width)) place (in_row width row i _ f low (at ∙ here i low))
by_row width row n out part f k fits long lt before here (inr p) = in_front (row * width) n k out part (omega arith) p.1 ∙ before k p.1

-- one row more
pub rows_more : (width row n : ℕ) (out part : List ℕ) (f : ℕ → ℕ → ℕ) → row * width + width ≤ length out → length part ≡ width
    → BlockTo width (row * width) out f → ((i : ℕ) → i < width → get_or part i 0 ≡ f row i) → BlockTo width ((row + 1) * width) (put_mid (row * width) n out part) f
rows_more width row n out part f fits long before here k lt = by_row width row n out part f k fits long (omega arith) before here (leb_tells (row * width) k)

pub same_weighed : (t : Taps) {a b c d e f a' b' c' d' e' f' : ℕ} → a ≡ a' → b ≡ b' → c ≡ c' → d ≡ d' → e ≡ e' → f ≡ f' → weighed t a b c d e f ≡ weighed t a' b' c' d' e' f'
same_weighed t ha hb hc hd he hf = cc

further : (from : ℕ) (samples : List ℕ) (i n : ℕ) → get_or (drop from samples) (i + n) 0 ≡ get_or samples (from + i + n) 0
further from samples i n = get_or-drop from samples (i + n) 0 ∙ ap (λ (m : ℕ). get_or samples m 0) (omega arith)

-- a filtered row of samples from a place on
pub from_place : (t : Taps) (samples : List ℕ) (from step i : ℕ) → weighed_at t (drop from samples) step i ≡ weighed_at t samples step (from + i)
from_place t samples from step i =
    same_weighed t (get_or-drop from samples i 0) (further from samples i step) (further from samples i (2 * step)) (further from samples i (3 * step)) (further from samples i (4 * step)) (further from samples i (5 * step))

-- the same where the rest is cut to its length
pub from_rest : (t : Taps) (samples : List ℕ) (from step i : ℕ) → weighed_at t (take (length samples - from) (drop from samples)) step i ≡ weighed_at t samples step (from + i)
from_rest t samples from step i =
    ap (λ (xs : List ℕ). weighed_at t xs step i) (between_to_end samples from (length samples) (omega arith)) ∙ from_place t samples from step i

-- a part of a list: its length and its elements
pub part_long : (from n : ℕ) (xs : List ℕ) → from + n ≤ length xs → length (take (from + n - from) (drop from xs)) ≡ n
part_long from n xs h = search (rules, places)

pub part_at : (from n i : ℕ) (xs : List ℕ) → i < n → get_or (take (from + n - from) (drop from xs)) i 0 ≡ get_or xs (from + i) 0
part_at from n i xs h = get_or-take (from + n - from) (drop from xs) i 0 (omega arith) ∙ get_or-drop from xs i 0

-- an element of what stands in front
pub at_front : (xs ys : List ℕ) (k : ℕ) → k < length xs → get_or (xs ++ ys) k 0 ≡ get_or xs k 0
at_front xs ys k h = search (rules, places)
