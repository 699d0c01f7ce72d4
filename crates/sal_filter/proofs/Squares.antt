-- The edges of a square stand in its plane.
use Rattle.std.proofs.Common.{inl, inr, subst, ◌≡◌, ◌∙◌, ap, refl, sym, arith, ℕ, zero, suc, ◌+◌, ◌*◌, ◌-◌, ◌/◌, ◌%◌, ◌<◌, ◌≤◌, Bool, true, false, List, length, add-one, nat_lt, cond}
use Rattle.std.proofs.Math.Nat.{mul-le-mul_right}
use Rattle.std.proofs.lemmas.Bool.{cases_lt}
use Rattle.sal_filter.specs.declared.edge.Edge.{Edge}
use Rattle.sal_filter.specs.declared.block.Square.{Square}
use Rattle.sal_filter.specs.Filtered.{edge_filtered}
use Rattle.sal_filter.specs.Blocks.{Fits, vertical_edge, horizontal_edge, fourths, vertical_edges, horizontal_edges, square_filtered}
use Rattle.sal_filter.proofs.Places.{length_edge}

-- an index in row r of a list that has the rows below bottom
in_rows : (r x w bottom long : ℕ) → r < bottom → x < w → bottom * w ≤ long → r * w + x < long
in_rows r x w bottom long h g l = let m : (r + 1) * w ≤ bottom * w = mul-le-mul_right w (omega arith) in omega (arith, m)

pub upright_fits : (s : Square) (xs : List ℕ) (offset n : ℕ) → Fits s xs → offset + 4 ≤ s.side → n < s.side → s.y * s.width + s.x + offset + n * s.width + 3 * 1 < length xs
upright_fits s xs offset n f o h =
    let m = in_rows (s.y + n) (s.x + offset + 3) s.width (s.y + s.side) (length xs) (omega arith) (omega (arith, f.columns)) f.rows in omega (arith, m)

pub level_before : (s : Square) (offset : ℕ) → 4 ≤ s.y + offset → 4 * s.width ≤ (s.y + offset) * s.width + s.x
level_before s offset h = let m : 4 * s.width ≤ (s.y + offset) * s.width = mul-le-mul_right s.width h in omega (arith, m)

pub level_fits : (s : Square) (xs : List ℕ) (offset n : ℕ) → Fits s xs → offset + 4 ≤ s.side → n < s.side → (s.y + offset) * s.width + s.x + n * 1 + 3 * s.width < length xs
level_fits s xs offset n f o h =
    let m = in_rows (s.y + offset + 3) (s.x + n) s.width (s.y + s.side) (length xs) (omega arith) (omega (arith, f.columns)) f.rows in omega (arith, m)

-- no two places of an edge share a sample
pub upright_apart : (s : Square) (xs : List ℕ) (d m : ℕ) → Fits s xs → d ≤ 7 → 1 ≤ m → d * 1 ≡ m * s.width → ⊥
upright_apart s xs d m f a b e = let p : 1 * s.width ≤ m * s.width = mul-le-mul_right s.width b in omega (arith, p, e, f.columns, f.some, f.eights)

pub level_apart : (s : Square) (xs : List ℕ) (d m : ℕ) → Fits s xs → 1 ≤ m → m < 8 → d * s.width ≡ m * 1 → ⊥
level_apart s xs d m f b c e =
    elim (cases_lt 0 d) [
      | inl some ↦ let p : 1 * s.width ≤ d * s.width = mul-le-mul_right s.width some in omega (arith, p, e, f.columns, f.some, f.eights)
      | inr none ↦ let z : d ≡ 0 = omega arith in let g : 0 * s.width ≡ m * 1 = subst (λ (k : ℕ). k * s.width ≡ m * 1) z e in omega (arith, g)
    ]

-- a side is so many eights
pub whole_side : (s : Square) (xs : List ℕ) → Fits s xs → 8 * (s.side / 8) ≡ s.side
whole_side s xs f = omega (arith, f.eights)

pub upright_whole : (e : Edge) (s : Square) (offset : ℕ) (xs ys : List ℕ) → Fits s xs → ys ≡ edge_filtered e (s.y * s.width + s.x + offset) 1 s.width (8 * (s.side / 8)) xs → ys ≡ vertical_edge e s offset xs
upright_whole e s offset xs ys f p = p ∙ ap (λ (n : ℕ). edge_filtered e (s.y * s.width + s.x + offset) 1 s.width n xs) (whole_side s xs f)

pub level_whole : (e : Edge) (s : Square) (offset : ℕ) (xs ys : List ℕ) → Fits s xs → ys ≡ edge_filtered e ((s.y + offset) * s.width + s.x) s.width 1 (8 * (s.side / 8)) xs → ys ≡ horizontal_edge e s offset xs
level_whole e s offset xs ys f p = p ∙ ap (λ (n : ℕ). edge_filtered e ((s.y + offset) * s.width + s.x) s.width 1 n xs) (whole_side s xs f)

-- a square in a plane
pub fits_in : (s : Square) (xs ys : List ℕ) (width height : ℕ) → ys ≡ xs → length xs ≡ width * height → s.width ≡ width → s.x + s.side ≤ width → s.y + s.side ≤ height
    → (0 < s.x → 4 ≤ s.x) → (0 < s.y → 4 ≤ s.y) → (0 < s.side) × (s.side % 8 ≡ 0) → Fits s ys
fits_in s xs ys width height same long e columns rows left top side =
    let m : (s.y + s.side) * s.width ≤ height * s.width = mul-le-mul_right s.width rows in
    let all : length ys ≡ s.width * height = ap length same ∙ (long ∙ ap (λ (k : ℕ). k * height) (sym e)) in
    record { some = side.0; eights = side.1; columns = omega arith; rows = omega (arith, m, all); left = left; top = top }

-- a list as long has the square too
pub fits_as_long : (s : Square) (xs ys : List ℕ) → length ys ≡ length xs → Fits s xs → Fits s ys
fits_as_long s xs ys e f = record { some = f.some; eights = f.eights; columns = f.columns; rows = let h = f.rows in omega arith; left = f.left; top = f.top }

pub fourths_none : (f : ℕ → List ℕ → List ℕ) (xs : List ℕ) → xs ≡ fourths f 0 xs
unfolding fourths
fourths_none f xs = refl

pub fourths_more : (f : ℕ → List ℕ → List ℕ) (n : ℕ) (start xs ys : List ℕ) → xs ≡ fourths f n start → ys ≡ f (4 * (n + 1)) xs → ys ≡ fourths f (n + 1) start
unfolding fourths
fourths_more f n start xs ys h p = rw add-one (p ∙ (ap (f (4 * (n + 1))) h ∙ ap (λ (k : ℕ). f (4 * k) (fourths f n start)) (add-one n)))

length_fourths : (f : ℕ → List ℕ → List ℕ) (n : ℕ) (xs : List ℕ) → ((k : ℕ) (zs : List ℕ) → length (f k zs) ≡ length zs) → length (fourths f n xs) ≡ length xs
unfolding fourths
length_fourths f zero xs h = refl
length_fourths f (suc n) xs h = h (4 * suc n) (fourths f n xs) ∙ length_fourths f n xs h

length_if : (b : Bool) (xs ys zs : List ℕ) → length xs ≡ length zs → length ys ≡ length zs → length (cond b xs ys) ≡ length zs
length_if true xs ys zs h g = h
length_if false xs ys zs h g = g

length_upright : (e : Edge) (s : Square) (offset : ℕ) (xs : List ℕ) → length (vertical_edge e s offset xs) ≡ length xs
length_upright e s offset xs = length_edge e (s.y * s.width + s.x + offset) 1 s.width s.side xs

length_level : (e : Edge) (s : Square) (offset : ℕ) (xs : List ℕ) → length (horizontal_edge e s offset xs) ≡ length xs
length_level e s offset xs = length_edge e ((s.y + offset) * s.width + s.x) s.width 1 s.side xs

length_uprights : (o i : Edge) (within : Bool) (s : Square) (xs : List ℕ) → length (vertical_edges o i within s xs) ≡ length xs
length_uprights o i within s xs =
    let left = cond (nat_lt 0 s.x) (vertical_edge o s 0 xs) xs in
    let e : length left ≡ length xs = length_if (nat_lt 0 s.x) (vertical_edge o s 0 xs) xs xs (length_upright o s 0 xs) refl in
    length_if within (fourths (vertical_edge i s) (s.side / 4 - 1) left) left xs (length_fourths (vertical_edge i s) (s.side / 4 - 1) left (length_upright i s) ∙ e) e

length_levels : (o i : Edge) (within : Bool) (s : Square) (xs : List ℕ) → length (horizontal_edges o i within s xs) ≡ length xs
length_levels o i within s xs =
    let top = cond (nat_lt 0 s.y) (horizontal_edge o s 0 xs) xs in
    let e : length top ≡ length xs = length_if (nat_lt 0 s.y) (horizontal_edge o s 0 xs) xs xs (length_level o s 0 xs) refl in
    length_if within (fourths (horizontal_edge i s) (s.side / 4 - 1) top) top xs (length_fourths (horizontal_edge i s) (s.side / 4 - 1) top (length_level i s) ∙ e) e

pub length_square : (o i : Edge) (within : Bool) (s : Square) (xs : List ℕ) → length (square_filtered o i within s xs) ≡ length xs
unfolding square_filtered
length_square o i within s xs = length_levels o i within s (vertical_edges o i within s xs) ∙ length_uprights o i within s xs
