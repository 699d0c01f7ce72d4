-- All that a frame's bits say. Sections are those of RFC 6386.
use Rattle.std.specs.Prelude.{ℕ, ℤ, pos, ◌+ℤ◌, List, Bool, not, ◌&&◌, ◌||◌, Some, None, if◌then◌else◌}
use Rattle.sal_base.specs.Pictures.{blocks_of}
use Rattle.sal_header.specs.declared.header.Header.{Header}
use Rattle.sal_macroblock.specs.declared.mode.MbMode.{MbMode}
use Rattle.sal_macroblock.specs.Macroblocks.{has_y2}
use Rattle.sal_transform.specs.Factors.{Factors, factors_of, index_of}
use Rattle.sal_filter.specs.declared.head.FilterHead.{FilterHead}
use Rattle.sal_filter.specs.declared.head.MbInfo.{MbInfo}
use Rattle.sal_filter.specs.Limits.{entry}

-- a macroblock: its modes and vectors, the coefficients of its 25 blocks, and whether some block's first token isn't the end
pub record Macroblock : Type 0 where
  pub mode : MbMode
  pub coefficients : List (List ℤ)
  pub has_coefficients : Bool

abbrev pub macroblock : MbMode → List (List ℤ) → Bool → Macroblock
macroblock mode coefficients has_coefficients = record { mode = mode; coefficients = coefficients; has_coefficients = has_coefficients }

-- a frame: its header, the size of its picture, and its macroblocks in raster order
pub record Record : Type 0 where
  pub header : Header
  pub width : ℕ
  pub height : ℕ
  pub blocks : List Macroblock

-- how many macroblocks stand in a row
abbrev pub columns_of : Record → ℕ
columns_of f = blocks_of f.width

-- a segment's quantiser index: its own, or on top of the frame's; without segmentation the frame's (9.3 and 9.6)
abbrev pub quantiser_of : Header → ℕ → ℕ
quantiser_of h segment =
    if h.segmentation then index_of (if h.absolute then entry h.quantisers segment else pos h.y_ac +ℤ entry h.quantisers segment)
    else h.y_ac

-- the factors of a segment's macroblocks (9.6 and 14.1)
unfoldable pub segment_factors : Header → ℕ → Factors
segment_factors h segment = factors_of (quantiser_of h segment) h.y_dc h.y2_dc h.y2_ac h.uv_dc h.uv_ac

-- what the loop filter is told of the frame (9.3 and 9.4)
unfoldable pub filter_head : Header → FilterHead
filter_head h =
    record {
      key = h.key;
      simple = h.simple;
      level = h.level;
      sharpness = h.sharpness;
      segments = if h.segmentation then Some (h.absolute, h.levels) else None;
      deltas = if h.deltas then Some (h.ref_deltas, h.mode_deltas) else None;
    }

-- and of a macroblock: inner edges are left out where one mode serves all of it and it has no coefficients (15)
unfoldable pub info_of : Macroblock → MbInfo
info_of b = record { mode = b.mode; inner = not (has_y2 b.mode.y) || (not b.mode.skip && b.has_coefficients) }
