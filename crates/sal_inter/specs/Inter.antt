-- The predicted sample at one place: a sum over six rows of sums over six columns (RFC 6386, 18.3).
use Rattle.std.specs.Prelude.{◌≡◌, ◌≤◌, ℕ, ◌+◌, ◌-◌, ◌*◌, ◌/◌, min, ℤ, pos, negsuc, neg_ℤ, ◌+ℤ◌, ◌-ℤ◌, ◌*ℤ◌, List, [], ◌∷◌, Bool, if◌then◌else◌, slice_index, slice_index_or, unsigned_abs, length}
use Rattle.std.specs.Int.{int_shr, int_rem_euclid}
use Rattle.sal_base.specs.Samples.{clamped}
use Rattle.sal_base.specs.declared.kinds.Vector.{Vector}
use Rattle.sal_base.specs.declared.picture.Plane.{Plane}
use Rattle.sal_tables.specs.Tables.{six_taps_of}

-- cut off at 0 and at the last place of a side
abbrev pub place_in : ℕ → ℤ → ℕ
place_in side (pos n) = min n (side - 1)
place_in side (negsuc n) = 0

-- a plane that has samples, as many as its sides say
pub record HasSamples (p : Plane) : Type 0 where
  pub wide : 1 ≤ p.width
  pub high : 1 ≤ p.height
  pub samples : length p.samples ≡ p.width * p.height

-- the sample of a plane at column x, row y; outside the plane the nearest edge sample
abbrev pub sample : Plane → ℤ → ℤ → ℕ
sample p x y = slice_index p.samples (place_in p.height y * p.width + place_in p.width x)

-- the filter of a fraction in eighths
abbrev pub taps_of : ℕ → List ℤ
taps_of fraction = slice_index_or six_taps_of fraction []

-- the sum of taps
abbrev pub gain : List ℤ → ℤ
gain [] = pos 0
gain (t ∷ ts) = t +ℤ gain ts

-- a sample times the k-th of six taps
abbrev pub tap : List ℤ → ℕ → ℕ → ℤ
tap taps k x = slice_index_or taps k (pos 0) *ℤ pos x

-- six samples through a filter: their sum in parts of 128, rounded half up and cut off at 0 and at 255
unfoldable pub six_sum : ℕ → ℕ → ℕ → ℕ → ℕ → ℕ → ℕ → ℕ
six_sum fraction x0 x1 x2 x3 x4 x5 =
    let taps = taps_of fraction in
    clamped (int_shr ((((((tap taps 0 x0 +ℤ tap taps 1 x1) +ℤ tap taps 2 x2) +ℤ tap taps 3 x3) +ℤ tap taps 4 x4) +ℤ tap taps 5 x5) +ℤ pos 64) 7)

-- the same of the samples f around a place, from two before it to three after it
unfoldable pub interpolated : ℕ → (ℤ → ℕ) → ℤ → ℕ
interpolated fraction f x = six_sum fraction (f (x -ℤ pos 2)) (f (x -ℤ pos 1)) (f x) (f (x +ℤ pos 1)) (f (x +ℤ pos 2)) (f (x +ℤ pos 3))

-- a vector's component in whole samples, and the eighths of a sample that are left; components are in eighths or in quarters
abbrev pub whole_of : Bool → ℤ → ℤ
whole_of eighths z = int_shr z (if eighths then 3 else 2)

abbrev pub fraction_of : Bool → ℤ → ℕ
fraction_of eighths z = if eighths then unsigned_abs (int_rem_euclid z (pos 8)) else 2 * unsigned_abs (int_rem_euclid z (pos 4))

-- the sample at column x, row y by a vector into a reference: rows first, then the column of their results
unfoldable pub inter_sample : Plane → Vector → Bool → ℤ → ℤ → ℕ
inter_sample p v eighths x y =
    let across = λ (row : ℤ). interpolated (fraction_of eighths v.column) (λ column. sample p column row) (x +ℤ whole_of eighths v.column) in
    interpolated (fraction_of eighths v.row) across (y +ℤ whole_of eighths v.row)

-- a quarter, rounded half away from 0: (s + 2) / 4, or (s - 2) / 4 where s is negative, each cut towards 0
abbrev pub quarter : ℤ → ℤ
quarter (pos n) = pos ((n + 2) / 4)
quarter (negsuc n) = neg_ℤ (pos ((n + 3) / 4))

abbrev pub sum_of_rows : Vector → Vector → Vector → Vector → ℤ
sum_of_rows a b c d = ((a.row +ℤ b.row) +ℤ c.row) +ℤ d.row

abbrev pub sum_of_columns : Vector → Vector → Vector → Vector → ℤ
sum_of_columns a b c d = ((a.column +ℤ b.column) +ℤ c.column) +ℤ d.column

-- a chroma block's vector, in eighths of its samples, out of those of its four luma blocks (18.3)
abbrev pub mean_vector : Vector → Vector → Vector → Vector → Vector
mean_vector a b c d = record { row = quarter (sum_of_rows a b c d); column = quarter (sum_of_columns a b c d) }
