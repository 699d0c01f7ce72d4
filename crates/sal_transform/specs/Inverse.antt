-- The inverse transform, in whole numbers that don't wrap (RFC 6386, 14.3).
use Rattle.std.specs.Prelude.{ℕ, ℤ, pos, ◌+ℤ◌, ◌-ℤ◌, ◌*ℤ◌, List, [], ◌∷◌, slice_index_or, ◌+◌, ◌++◌}
use Rattle.std.specs.Int.{int_shr}

-- x by a factor in parts of 65,536, rounded down
unfoldable pub scaled : ℕ → ℤ → ℤ
scaled k x = int_shr (x *ℤ pos k) 16

-- the difference and the sum of the odd values, turned
abbrev pub c_of : ℤ → ℤ → ℤ
c_of x1 x3 = (scaled 35468 x1 -ℤ x3) -ℤ scaled 20091 x3

abbrev pub d_of : ℤ → ℤ → ℤ
d_of x1 x3 = (x1 +ℤ scaled 20091 x1) +ℤ scaled 35468 x3

-- the four results of the one-dimensional transform
unfoldable pub out_0 : ℤ → ℤ → ℤ → ℤ → ℤ
out_0 x0 x1 x2 x3 = (x0 +ℤ x2) +ℤ d_of x1 x3

unfoldable pub out_1 : ℤ → ℤ → ℤ → ℤ → ℤ
out_1 x0 x1 x2 x3 = (x0 -ℤ x2) +ℤ c_of x1 x3

unfoldable pub out_2 : ℤ → ℤ → ℤ → ℤ → ℤ
out_2 x0 x1 x2 x3 = (x0 -ℤ x2) -ℤ c_of x1 x3

unfoldable pub out_3 : ℤ → ℤ → ℤ → ℤ → ℤ
out_3 x0 x1 x2 x3 = (x0 +ℤ x2) -ℤ d_of x1 x3

-- an eighth, rounded half up
unfoldable pub rounded : ℤ → ℤ
rounded x = int_shr (x +ℤ pos 4) 3

-- the value at place k of a block in raster order
abbrev pub at : List ℤ → ℕ → ℤ
at b k = slice_index_or b k (pos 0)

-- f of column c
abbrev pub down : (ℤ → ℤ → ℤ → ℤ → ℤ) → List ℤ → ℕ → ℤ
down f b c = f (at b c) (at b (c + 4)) (at b (c + 8)) (at b (c + 12))

-- a row of results, rounded, out of a row of values by column
abbrev pub row : (ℕ → ℤ) → List ℤ
row x = rounded (out_0 (x 0) (x 1) (x 2) (x 3)) ∷ rounded (out_1 (x 0) (x 1) (x 2) (x 3)) ∷ rounded (out_2 (x 0) (x 1) (x 2) (x 3)) ∷ rounded (out_3 (x 0) (x 1) (x 2) (x 3)) ∷ []

-- columns, then rows
unfoldable pub inverse_of : List ℤ → List ℤ
inverse_of b = row (down out_0 b) ++ row (down out_1 b) ++ row (down out_2 b) ++ row (down out_3 b)
