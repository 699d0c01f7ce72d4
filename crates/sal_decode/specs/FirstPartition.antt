-- The first partition: the header, then the modes of all macroblocks (RFC 6386, 9 and 19).
use Rattle.std.specs.Prelude.{ℕ, suc, zero, ◌+◌, ◌-◌, ◌*◌, ◌/◌, ◌%◌, List, [], ◌∷◌, ◌++◌, not, ◌&&◌, ◌||◌, if◌then◌else◌, ◌==◌, length, slice_index, slice_index_or}
use Rattle.sal_bool.specs.Syntax.{Syntax, Done, ◌>>=◌}
use Rattle.sal_probs.specs.Probabilities.{Table, used}
use Rattle.sal_header.specs.declared.tag.Tag.{Tag}
use Rattle.sal_header.specs.declared.header.Kept.{Kept}
use Rattle.sal_header.specs.declared.header.Header.{Header}
use Rattle.sal_header.specs.Headers.{header_of}
use Rattle.sal_macroblock.specs.declared.mode.MbMode.{MbMode}
use Rattle.sal_macroblock.specs.Macroblocks.{outside}
use Rattle.sal_modes.specs.Vectors.{bounds_of}
use Rattle.sal_modes.specs.Around.{Around}
use Rattle.sal_modes.specs.Modes.{mb_mode}

abbrev pub mode_at : List MbMode → ℕ → MbMode
mode_at ms k = slice_index_or ms k outside

-- around the macroblock that comes after those so far, in raster order
abbrev pub around : ℕ → ℕ → List MbMode → Around
around columns rows ms =
    let k = length ms in
    let column = k % columns in
    let row = k / columns in
    record {
      above = if row == 0 then outside else mode_at ms (k - columns);
      left = if column == 0 then outside else mode_at ms (k - 1);
      corner = if row == 0 || column == 0 then outside else mode_at ms (k - columns - 1);
      bounds = bounds_of columns rows column row;
    }

-- the modes of n more macroblocks after those so far (19.3)
unfoldable pub mb_modes : Header → Table → ℕ → ℕ → ℕ → List MbMode → Syntax (List MbMode)
mb_modes h probs columns rows zero ms = Done ms
mb_modes h probs columns rows (suc n) ms = mb_mode h probs (around columns rows ms) >>= λ m. mb_modes h probs columns rows n (ms ++ m ∷ [])

-- a frame of so many macroblocks a side, over what the state keeps
unfoldable pub first_partition : Tag → Kept → ℕ → ℕ → Syntax (Header × List MbMode)
first_partition tag kept columns rows = do
  h ← header_of tag.key tag.shown kept
  ms ← mb_modes h (used h.key kept.probs h.updates) columns rows (columns * rows) []
  Done (h, ms)

-- the segment of macroblock k: the one that it names where the map is updated, else the one that the map has, which is 0 in a
-- key frame; without segmentation 0 (9.3)
abbrev pub segment_of : Header → List ℕ → ℕ → MbMode → ℕ
segment_of h map k m =
    if h.update_map then m.segment
    else (if h.segmentation && not h.key then slice_index map k else 0)

-- the macroblocks from the k-th on, each in its segment
unfoldable pub with_segments : Header → List ℕ → ℕ → List MbMode → List MbMode
with_segments h map k [] = []
with_segments h map k (m ∷ ms) = record m { segment = segment_of h map k m } ∷ with_segments h map (k + 1) ms
