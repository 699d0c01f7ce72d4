-- How large factors are, and blocks of one coefficient.
use Rattle.std.specs.Prelude.{◌≡◌, ◌<◌, ◌≤◌, ℕ, ℤ, pos, List, slice_index_or}
use Rattle.sal_transform.specs.Factors.{Factors}

-- the factors of a macroblock: none is 0, each is at most 440
pub record AreFactors (s : Factors) : Type 0 where
  pub y_dc : s.y_dc ≤ 440
  pub y_ac : s.y_ac ≤ 440
  pub y2_dc : s.y2_dc ≤ 440
  pub y2_ac : s.y2_ac ≤ 440
  pub uv_dc : s.uv_dc ≤ 440
  pub uv_ac : s.uv_ac ≤ 440
  pub some_y_dc : 1 ≤ s.y_dc
  pub some_y_ac : 1 ≤ s.y_ac
  pub some_y2_dc : 1 ≤ s.y2_dc
  pub some_y2_ac : 1 ≤ s.y2_ac
  pub some_uv_dc : 1 ≤ s.uv_dc
  pub some_uv_ac : 1 ≤ s.uv_ac

-- all coefficients but the first are 0
abbrev pub HasOneCoefficient : List ℤ → Type 0
HasOneCoefficient zs = (k : ℕ) → 1 ≤ k → k < 16 → slice_index_or zs k (pos 0) ≡ pos 0
