-- The inverse Walsh-Hadamard transform (RFC 6386, 14.3).
use Rattle.std.specs.Prelude.{ℕ, ℤ, pos, ◌+ℤ◌, ◌-ℤ◌, List, [], ◌∷◌, ◌++◌}
use Rattle.std.specs.Int.{int_shr}
use Rattle.sal_transform.specs.Inverse.{down}

-- the four sums of the one-dimensional transform
unfoldable pub sum_0 : ℤ → ℤ → ℤ → ℤ → ℤ
sum_0 x0 x1 x2 x3 = (x0 +ℤ x3) +ℤ (x1 +ℤ x2)

unfoldable pub sum_1 : ℤ → ℤ → ℤ → ℤ → ℤ
sum_1 x0 x1 x2 x3 = (x1 -ℤ x2) +ℤ (x0 -ℤ x3)

unfoldable pub sum_2 : ℤ → ℤ → ℤ → ℤ → ℤ
sum_2 x0 x1 x2 x3 = (x0 +ℤ x3) -ℤ (x1 +ℤ x2)

unfoldable pub sum_3 : ℤ → ℤ → ℤ → ℤ → ℤ
sum_3 x0 x1 x2 x3 = (x0 -ℤ x3) -ℤ (x1 -ℤ x2)

-- an eighth, rounded to the nearest, halves down
unfoldable pub eighth : ℤ → ℤ
eighth x = int_shr (x +ℤ pos 3) 3

-- a row of results, rounded, out of a row of values by column
abbrev pub along : (ℕ → ℤ) → List ℤ
along x = eighth (sum_0 (x 0) (x 1) (x 2) (x 3)) ∷ eighth (sum_1 (x 0) (x 1) (x 2) (x 3)) ∷ eighth (sum_2 (x 0) (x 1) (x 2) (x 3)) ∷ eighth (sum_3 (x 0) (x 1) (x 2) (x 3)) ∷ []

-- columns, then rows
unfoldable pub inverse_y2_of : List ℤ → List ℤ
inverse_y2_of b = along (down sum_0 b) ++ along (down sum_1 b) ++ along (down sum_2 b) ++ along (down sum_3 b)
