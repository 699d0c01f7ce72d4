-- Inter macroblocks (RFC 6386, 16).
use Rattle.std.specs.Prelude.{◌≡◌, false}
use Rattle.sal_macroblock.specs.declared.mode.MbMode.{MbMode}
use Rattle.sal_macroblock.specs.Macroblocks.{is_intra, is_b}

-- predicted from a reference
pub record IsInter (m : MbMode) : Type 0 where
  pub reference : is_intra m.reference ≡ false
  pub luma : is_b m.y ≡ false
