-- The forward transforms and the quantiser of the encoder, which choose what the inverse ones of RFC 6386 (14) are given.
use Rattle.std.specs.Prelude.{ℕ, ◌+◌, ◌*◌, ◌/◌, min, ℤ, pos, neg_ℤ, ◌+ℤ◌, ◌-ℤ◌, ◌*ℤ◌, List, [], ◌∷◌, ◌++◌, if◌then◌else◌, ◌==◌, int_lt, unsigned_abs, slice_index}
use Rattle.std.specs.Int.{int_shr}
use Rattle.sal_base.specs.Samples.{listed}
use Rattle.sal_tables.specs.Tables.{zigzag_of}
use Rattle.sal_transform.specs.Inverse.{at, down}
use Rattle.sal_transform.specs.Hadamard.{sum_0, sum_1, sum_2, sum_3}

-- in parts of 16, of 4,096 and of 65,536, each rounded to the nearest, halves up
unfoldable pub part_4 : ℤ → ℤ
part_4 x = int_shr (x +ℤ pos 8) 4

unfoldable pub part_12 : ℤ → ℤ
part_12 x = int_shr (x +ℤ pos 2048) 12

unfoldable pub part_16 : ℤ → ℤ
part_16 x = int_shr (x +ℤ pos 32768) 16

-- the differences c of the inner and d of the outer values, turned
abbrev pub turned : ℤ → ℤ → ℤ
turned c d = (pos 2217 *ℤ c) +ℤ (pos 5352 *ℤ d)

abbrev pub turned_back : ℤ → ℤ → ℤ
turned_back c d = (pos 2217 *ℤ d) -ℤ (pos 5352 *ℤ c)

-- a row's four results, of its values times 8
unfoldable pub row_0 : ℤ → ℤ → ℤ → ℤ → ℤ
row_0 x0 x1 x2 x3 = (pos 8 *ℤ (x0 +ℤ x3)) +ℤ (pos 8 *ℤ (x1 +ℤ x2))

unfoldable pub row_1 : ℤ → ℤ → ℤ → ℤ → ℤ
row_1 x0 x1 x2 x3 = part_12 (turned (pos 8 *ℤ (x1 -ℤ x2)) (pos 8 *ℤ (x0 -ℤ x3)))

unfoldable pub row_2 : ℤ → ℤ → ℤ → ℤ → ℤ
row_2 x0 x1 x2 x3 = (pos 8 *ℤ (x0 +ℤ x3)) -ℤ (pos 8 *ℤ (x1 +ℤ x2))

unfoldable pub row_3 : ℤ → ℤ → ℤ → ℤ → ℤ
row_3 x0 x1 x2 x3 = part_12 (turned_back (pos 8 *ℤ (x1 -ℤ x2)) (pos 8 *ℤ (x0 -ℤ x3)))

-- a column's four results
unfoldable pub column_0 : ℤ → ℤ → ℤ → ℤ → ℤ
column_0 x0 x1 x2 x3 = part_4 ((x0 +ℤ x3) +ℤ (x1 +ℤ x2))

unfoldable pub column_1 : ℤ → ℤ → ℤ → ℤ → ℤ
column_1 x0 x1 x2 x3 = part_16 (turned (x1 -ℤ x2) (x0 -ℤ x3))

unfoldable pub column_2 : ℤ → ℤ → ℤ → ℤ → ℤ
column_2 x0 x1 x2 x3 = part_4 ((x0 +ℤ x3) -ℤ (x1 +ℤ x2))

unfoldable pub column_3 : ℤ → ℤ → ℤ → ℤ → ℤ
column_3 x0 x1 x2 x3 = part_16 (turned_back (x1 -ℤ x2) (x0 -ℤ x3))

-- f of row r
abbrev pub across : (ℤ → ℤ → ℤ → ℤ → ℤ) → List ℤ → ℕ → ℤ
across f b r = f (at b (4 * r)) (at b (4 * r + 1)) (at b (4 * r + 2)) (at b (4 * r + 3))

-- f of four values by number
abbrev pub of_four : (ℤ → ℤ → ℤ → ℤ → ℤ) → (ℕ → ℤ) → ℤ
of_four f x = f (x 0) (x 1) (x 2) (x 3)

-- f of each column of what the rows gave
abbrev pub each_column : (ℤ → ℤ → ℤ → ℤ → ℤ) → List ℤ → List ℤ
each_column f b = of_four f (across row_0 b) ∷ of_four f (across row_1 b) ∷ of_four f (across row_2 b) ∷ of_four f (across row_3 b) ∷ []

-- rows, then columns
unfoldable pub forward_of : List ℤ → List ℤ
forward_of b = each_column column_0 b ++ each_column column_1 b ++ each_column column_2 b ++ each_column column_3 b

-- a half, rounded up
unfoldable pub half : ℤ → ℤ
half x = int_shr (x +ℤ pos 1) 1

-- a row of results, halved, out of a row of values by column
abbrev pub half_row : (ℕ → ℤ) → List ℤ
half_row x = half (of_four sum_0 x) ∷ half (of_four sum_1 x) ∷ half (of_four sum_2 x) ∷ half (of_four sum_3 x) ∷ []

-- the Walsh-Hadamard sums of the columns, then of the rows
unfoldable pub forward_y2_of : List ℤ → List ℤ
forward_y2_of b = half_row (down sum_0 b) ++ half_row (down sum_1 b) ++ half_row (down sum_2 b) ++ half_row (down sum_3 b)

-- how many factors a size and a third of a factor hold, at most 2,047
abbrev pub size_in : ℕ → ℕ → ℕ
size_in factor size = min 2047 ((size + factor / 3) / factor)

-- a value's coefficient, with the value's sign
unfoldable pub quantised_value : ℤ → ℤ → ℤ
quantised_value factor x = let n = size_in (unsigned_abs factor) (unsigned_abs x) in if int_lt x (pos 0) then neg_ℤ (pos n) else pos n

-- values in raster order as coefficients in zigzag order, the first by a factor of its own
unfoldable pub quantised : List ℤ → ℤ → ℤ → List ℤ
quantised values dc ac = listed 16 (λ position. quantised_value (if position == 0 then dc else ac) (at values (slice_index zigzag_of position)))
