-- The residues of a macroblock, block by block and by place (RFC 6386, 14).
use Rattle.std.specs.Prelude.{ℕ, ◌+◌, ◌*◌, ◌/◌, ◌%◌, ℤ, pos, List, [], slice_index_or}
use Rattle.sal_macroblock.specs.Macroblocks.{has_y2}
use Rattle.sal_transform.specs.Factors.{Factors}
use Rattle.sal_transform.specs.Residues.{luma_residues_of, chroma_residues_of}
use Rattle.sal_frame.specs.Records.{Macroblock}

-- the sixteen luma blocks
abbrev pub luma_residues : Factors → Macroblock → List (List ℤ)
luma_residues s b = luma_residues_of s (has_y2 b.mode.y) b.coefficients

-- four chroma blocks, of U from block 16 on, of V from block 20 on
abbrev pub chroma_residues : Factors → Macroblock → ℕ → List (List ℤ)
chroma_residues s b first = chroma_residues_of s b.coefficients first

-- the residue at a row and column of a square that many blocks wide
abbrev pub residue_at : ℕ → List (List ℤ) → ℕ → ℕ → ℤ
residue_at many blocks row column = slice_index_or (slice_index_or blocks (many * (row / 4) + column / 4) []) (4 * (row % 4) + column % 4) (pos 0)
