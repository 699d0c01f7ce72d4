-- The residues of a block: its coefficients times their factors, transformed back (RFC 6386, 14).
use Rattle.std.specs.Prelude.{ℤ, pos, List, slice_set}
use Rattle.sal_transform.specs.Inverse.{inverse_of}
use Rattle.sal_transform.specs.Hadamard.{inverse_y2_of}
use Rattle.sal_transform.specs.Factors.{dequantised}

-- a block whose first coefficient is its own, in raster order
unfoldable pub residue_of : List ℤ → ℤ → ℤ → List ℤ
residue_of coefficients dc ac = inverse_of (dequantised coefficients dc ac)

-- the first values of the sixteen luma blocks of a macroblock, out of the coefficients of its Y2
unfoldable pub firsts_of : List ℤ → ℤ → ℤ → List ℤ
firsts_of coefficients dc ac = inverse_y2_of (dequantised coefficients dc ac)

-- a luma block whose first value comes from Y2
unfoldable pub residue_after : ℤ → List ℤ → ℤ → List ℤ
residue_after first coefficients ac = inverse_of (slice_set (dequantised coefficients (pos 0) ac) 0 first)
