-- Which modes of luma and chroma take a block as a whole.
use Rattle.std.specs.Prelude.{Bool, true, false}
use Rattle.sal_base.specs.declared.kinds.YMode.{YMode}
use Rattle.sal_base.specs.declared.kinds.YMode.TheVariants.{DC, V, H, TM}

-- one of the four modes that predict a block as a whole (RFC 6386, 8)
abbrev pub is_whole : YMode → Bool
is_whole DC = true
is_whole V = true
is_whole H = true
is_whole TM = true
is_whole _ = false
