-- What is around a macroblock and around each of its blocks.
use Rattle.std.specs.Prelude.{ℕ, ◌+◌, ◌-◌, ◌%◌, List, ◌==◌, nat_lt, if◌then◌else◌, slice_index_or}
use Rattle.sal_macroblock.specs.declared.mode.MbMode.{MbMode}
use Rattle.sal_modes.specs.declared.around.Bounds.{Bounds}

-- the macroblocks above, left and above-left of one, and how far its near vectors may point
pub record Around : Type 0 where
  pub above : MbMode
  pub left : MbMode
  pub corner : MbMode
  pub bounds : Bounds

-- of lists over the sixteen blocks of a macroblock, inner its own and outer those of the macroblock beside it:
-- what stands above block k, and what stands left of it
abbrev pub above_of : {A : Type 0} → A → List A → List A → ℕ → A
above_of d outer inner k = if nat_lt k 4 then slice_index_or outer (k + 12) d else slice_index_or inner (k - 4) d

abbrev pub left_of : {A : Type 0} → A → List A → List A → ℕ → A
left_of d outer inner k = if k % 4 == 0 then slice_index_or outer (k + 3) d else slice_index_or inner (k - 1) d
