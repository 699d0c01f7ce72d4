-- The residues of a macroblock, block by block (RFC 6386, 14).
use Rattle.std.specs.Prelude.{ℕ, ◌+◌, ℤ, pos, List, [], Bool, if◌then◌else◌, slice_index_or}
use Rattle.sal_base.specs.Samples.{listed}
use Rattle.sal_transform.specs.Factors.{Factors}
use Rattle.sal_transform.specs.Residue.{residue_of, firsts_of, residue_after}

-- the coefficients of block k: 0 to 15 are luma, 16 to 19 U, 20 to 23 V, 24 Y2
abbrev pub block_at : List (List ℤ) → ℕ → List ℤ
block_at blocks k = slice_index_or blocks k []

-- the first values of the luma blocks, out of Y2
unfoldable pub firsts : Factors → List (List ℤ) → List ℤ
firsts s blocks = firsts_of (block_at blocks 24) (pos s.y2_dc) (pos s.y2_ac)

-- with their own first coefficients, and with first values out of Y2
abbrev pub luma_alone : Factors → List (List ℤ) → List (List ℤ)
luma_alone s blocks = listed 16 (λ k. residue_of (block_at blocks k) (pos s.y_dc) (pos s.y_ac))

abbrev pub luma_after : Factors → List (List ℤ) → List ℤ → List (List ℤ)
luma_after s blocks firsts = listed 16 (λ k. residue_after (slice_index_or firsts k (pos 0)) (block_at blocks k) (pos s.y_ac))

-- the sixteen luma blocks
unfoldable pub luma_residues_of : Factors → Bool → List (List ℤ) → List (List ℤ)
luma_residues_of s has_y2 blocks = if has_y2 then luma_after s blocks (firsts s blocks) else luma_alone s blocks

-- four chroma blocks, of U from block 16 on, of V from block 20 on
unfoldable pub chroma_residues_of : Factors → List (List ℤ) → ℕ → List (List ℤ)
chroma_residues_of s blocks first = listed 4 (λ k. residue_of (block_at blocks (first + k)) (pos s.uv_dc) (pos s.uv_ac))
