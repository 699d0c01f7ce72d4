-- Intra macroblocks by the samples around them (RFC 6386, 12 and 14.5).
use Rattle.std.specs.Prelude.{◌≡◌, ◌<◌, ◌⊎◌, IsTrue, ℕ, List, if◌then◌else◌}
use Rattle.sal_base.specs.Kinds.{is_whole}
use Rattle.sal_base.specs.declared.picture.Planes.{Planes}
use Rattle.sal_macroblock.specs.declared.mode.MbMode.{MbMode}
use Rattle.sal_macroblock.specs.declared.mode.RefKind.TheVariants.{Intra}
use Rattle.sal_state.specs.States.{HasBlocks}
use Rattle.sal_macroblock.specs.Macroblocks.{is_b}
use Rattle.sal_intra.specs.declared.edge.LumaEdge.{LumaEdge}
use Rattle.sal_intra.specs.declared.edge.ChromaEdge.{ChromaEdge}
use Rattle.sal_intra.specs.Intra.{whole_sample, luma_edge, chroma_edge}
use Rattle.sal_transform.specs.Factors.{Factors}
use Rattle.sal_frame.specs.Records.{Macroblock}
use Rattle.sal_frame.specs.Residues.{luma_residues, chroma_residues, residue_at}
use Rattle.sal_frame.specs.Built.{added, subs_built}

unfoldable pub intra_luma : Factors → Macroblock → LumaEdge → List ℕ
intra_luma s b e =
    if is_b b.mode.y then subs_built e b.mode (luma_residues s b) 16
    else added 16 256 (whole_sample b.mode.y (luma_edge e)) (residue_at 4 (luma_residues s b))

unfoldable pub intra_chroma : Factors → Macroblock → ℕ → ChromaEdge → List ℕ
intra_chroma s b first e = added 8 64 (whole_sample b.mode.chroma (chroma_edge e)) (residue_at 2 (chroma_residues s b first))

-- an intra macroblock: in mode B or in one of the four that predict it as a whole; chroma always as a whole
pub record IsIntra (m : MbMode) : Type 0 where
  pub reference : m.reference ≡ Intra
  pub luma : IsTrue (is_b m.y) ⊎ IsTrue (is_whole m.y)
  pub chroma : IsTrue (is_whole m.chroma)

-- these planes have a macroblock at this column and row
pub record HasPlace (column row : ℕ) (p : Planes) : Type 0 where
  pub columns : ℕ
  pub rows : ℕ
  pub blocks : HasBlocks columns rows p
  pub in_columns : column < columns
  pub in_rows : row < rows
