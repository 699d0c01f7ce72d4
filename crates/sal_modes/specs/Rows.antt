-- A row of macroblocks and the one above it, which is all that the modes of one depend on besides its bits.
use Rattle.std.specs.Prelude.{ℕ, ◌+◌, ◌-◌, List, ◌==◌, if◌then◌else◌, replicate, slice_index_or, slice_set}
use Rattle.sal_macroblock.specs.declared.mode.MbMode.{MbMode}
use Rattle.sal_macroblock.specs.Macroblocks.{outside}
use Rattle.sal_modes.specs.Vectors.{bounds_of}
use Rattle.sal_modes.specs.Around.{Around}

-- the size of the picture in macroblocks, a row's place in it, and by column the macroblocks of the row above and those of this row
-- that were read
pub record Rows : Type 0 where
  pub columns : ℕ
  pub rows : ℕ
  pub row : ℕ
  pub above : List MbMode
  pub here : List MbMode

-- above the first row there is nothing of the picture
abbrev pub first_row : ℕ → ℕ → Rows
first_row columns rows = record { columns = columns; rows = rows; row = 0; above = replicate columns outside; here = replicate columns outside }

-- the one before this column, where there is one
abbrev pub before : List MbMode → ℕ → MbMode
before ms column = if column == 0 then outside else slice_index_or ms (column - 1) outside

-- around the macroblock of this row at a column
abbrev pub around : Rows → ℕ → Around
around r column =
    record { above = slice_index_or r.above column outside; left = before r.here column; corner = before r.above column; bounds = bounds_of r.columns r.rows column r.row }

-- with the macroblock at a column
abbrev pub with_mb : ℕ → MbMode → Rows → Rows
with_mb column m r = record r { here = slice_set r.here column m }

-- the next row: the places of the new row have old macroblocks until their own are read
abbrev pub next_row : Rows → Rows
next_row r = record r { row = r.row + 1; above = r.here; here = r.above }
