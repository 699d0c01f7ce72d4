-- Vectors in quarter samples, and how far those suggested to a macroblock may point (RFC 6386, 5 and 16.3).
use Rattle.std.specs.Prelude.{ℕ, ◌+◌, ◌*◌, ◌-◌, ℤ, pos, neg_ℤ, ◌+ℤ◌, Bool, ◌&&◌}
use Rattle.std.specs.Int.{int_min, int_max}
use Rattle.std.specs.Ordering.{int_eq}
use Rattle.sal_base.specs.declared.kinds.Vector.{Vector}
use Rattle.sal_macroblock.specs.Sizes.{Within}
use Rattle.sal_macroblock.specs.Macroblocks.{vector}
use Rattle.sal_modes.specs.declared.around.Bounds.{Bounds}

-- the sum of two vectors
abbrev pub plus : Vector → Vector → Vector
plus a b = vector (a.row +ℤ b.row) (a.column +ℤ b.column)

-- whether two vectors are equal
abbrev pub same : Vector → Vector → Bool
same a b = int_eq a.row b.row && int_eq a.column b.column

-- cut off at low, then at high
abbrev pub between : ℤ → ℤ → ℤ → ℤ
between low high x = int_min high (int_max low x)

-- a vector cut off at the bounds
abbrev pub in_bounds : Bounds → Vector → Vector
in_bounds b v = vector (between b.least.row b.greatest.row v.row) (between b.least.column b.greatest.column v.column)

-- a macroblock at this column and row of so many may be moved as far as the first place wholly outside the picture
abbrev pub bounds_of : ℕ → ℕ → ℕ → ℕ → Bounds
bounds_of columns rows column row =
    record { least = vector (neg_ℤ (pos (64 * (row + 1)))) (neg_ℤ (pos (64 * (column + 1)))); greatest = vector (pos (64 * (rows - row))) (pos (64 * (columns - column))) }

-- bounds of a picture of at most 80 by 45 macroblocks: 80 * 64 quarter samples
pub record AreNear (b : Bounds) : Type 0 where
  pub least_row : Within 5120 b.least.row
  pub least_column : Within 5120 b.least.column
  pub greatest_row : Within 5120 b.greatest.row
  pub greatest_column : Within 5120 b.greatest.column
