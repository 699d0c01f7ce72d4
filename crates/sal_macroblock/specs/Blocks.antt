-- The coefficients of the blocks of a macroblock (RFC 6386, 13).
use Rattle.std.specs.Prelude.{ℤ, pos, List, replicate}

-- 25 blocks of sixteen zeros
abbrev pub no_coefficients : List (List ℤ)
no_coefficients = replicate 25 (replicate 16 (pos 0))
