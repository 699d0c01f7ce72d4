-- Quantiser factors, and values out of coefficients (RFC 6386, 9.6 and 14.1).
use Rattle.std.specs.Prelude.{ℕ, ◌*◌, ◌/◌, ℤ, pos, negsuc, ◌+ℤ◌, ◌*ℤ◌, List, min, max, if◌then◌else◌, ◌==◌, position, unwrap_or, slice_index, slice_index_or}
use Rattle.sal_base.specs.Samples.{listed}
use Rattle.sal_tables.specs.Tables.{dc_steps_of, ac_steps_of, zigzag_of}

-- the factors of a macroblock's three sorts of blocks: luma, Y2 and chroma, for the first coefficient and for the others
pub record Factors : Type 0 where
  pub y_dc : ℕ
  pub y_ac : ℕ
  pub y2_dc : ℕ
  pub y2_ac : ℕ
  pub uv_dc : ℕ
  pub uv_ac : ℕ

-- an index of factors, cut off at 0 and at 127
abbrev pub index_of : ℤ → ℕ
index_of (pos n) = min 127 n
index_of (negsuc n) = 0

-- the factor at an index and a delta on it
abbrev pub dc_factor : ℕ → ℤ → ℕ
dc_factor index delta = slice_index dc_steps_of (index_of (pos index +ℤ delta))

abbrev pub ac_factor : ℕ → ℤ → ℕ
ac_factor index delta = slice_index ac_steps_of (index_of (pos index +ℤ delta))

-- the factors of an index and its five deltas
unfoldable pub factors_of : ℕ → ℤ → ℤ → ℤ → ℤ → ℤ → Factors
factors_of index y_dc y2_dc y2_ac uv_dc uv_ac =
    record {
      y_dc = dc_factor index y_dc;
      y_ac = ac_factor index (pos 0);
      y2_dc = 2 * dc_factor index y2_dc;
      y2_ac = max 8 (ac_factor index y2_ac * 155 / 100);
      uv_dc = min 132 (dc_factor index uv_dc);
      uv_ac = ac_factor index uv_ac;
    }

-- where a place of the raster stands in zigzag order
abbrev pub position_of : ℕ → ℕ
position_of place = unwrap_or (position (λ z. z == place) zigzag_of) 0

-- coefficients in zigzag order as values in raster order: each times its factor, which the first has of its own
unfoldable pub dequantised : List ℤ → ℤ → ℤ → List ℤ
dequantised coefficients dc ac = listed 16 (λ place. slice_index_or coefficients (position_of place) (pos 0) *ℤ (if place == 0 then dc else ac))
