-- A picture that is to be encoded, by macroblock: whole macroblocks, beyond its sides by its nearest samples.
use Rattle.std.specs.Prelude.{ℕ, ◌+◌, ◌-◌, ◌*◌, min, List, slice_index}
use Rattle.sal_base.specs.Samples.{block_of}
use Rattle.sal_base.specs.declared.picture.Plane.{Plane}
use Rattle.sal_base.specs.declared.picture.Picture.{Picture}
use Rattle.sal_search.specs.declared.source.MbSource.{MbSource}

-- the sample of a plane that is nearest to column x, row y
abbrev pub nearest : Plane → ℕ → ℕ → ℕ
nearest p x y = slice_index p.samples (min y (p.height - 1) * p.width + min x (p.width - 1))

-- the square of this side at column x, row y
abbrev pub square_at : ℕ → Plane → ℕ → ℕ → List ℕ
square_at side p x y = block_of side (side * side) (λ row column. nearest p (x + column) (y + row))

-- the macroblock at this column and row of macroblocks
unfoldable pub source_at : Picture → ℕ → ℕ → MbSource
source_at p column row =
    record { y = square_at 16 p.y (16 * column) (16 * row); u = square_at 8 p.u (8 * column) (8 * row); v = square_at 8 p.v (8 * column) (8 * row) }
