-- Inter macroblocks in their places.
use Rattle.std.proofs.Common.{◌≡◌, ◌∙◌, ◌+◌, ℕ, pos, List, Bool, true, false, if◌then◌else◌, sym, ap}
use Rattle.sal_base.specs.declared.picture.Plane.{Plane}
use Rattle.sal_macroblock.specs.Macroblocks.{is_intra}
use Rattle.sal_intra.specs.Edges.{luma_edge_of, chroma_edge_of}
use Rattle.sal_intra.specs.Intra.{whole_sample, luma_edge, chroma_edge}
use Rattle.sal_inter.specs.Inter.{inter_sample}
use Rattle.sal_transform.specs.Factors.{Factors}
use Rattle.sal_frame.specs.Records.{Macroblock}
use Rattle.sal_frame.specs.Residues.{luma_residues, chroma_residues, residue_at}
use Rattle.sal_frame.specs.Built.{added, subs_built, luma_vector, chroma_vector, luma_built, chroma_built, put_square}
use Rattle.sal_frame.specs.Inter.{IsInter}

luma_same : (from : Plane) (s : Factors) (b : Macroblock) (p : Plane) (x y : ℕ) → IsInter b.mode
    → added 16 256 (λ row column. inter_sample from (luma_vector b.mode row column) false (pos (x + column)) (pos (y + row))) (residue_at 4 (luma_residues s b)) ≡ luma_built from s b p x y
unfolding luma_built
luma_same from s b p x y h =
    ap (λ (t : Bool).
    added 16 256
    (λ row column. if t then whole_sample b.mode.y (luma_edge (luma_edge_of p.width p.samples x y)) row column else inter_sample from (luma_vector b.mode row column) false (pos (x + column)) (pos (y + row)))
    (residue_at 4 (luma_residues s b)))
    (sym h.reference)
    ∙ ap (λ (t : Bool).
    if t then subs_built (luma_edge_of p.width p.samples x y) b.mode (luma_residues s b) 16
    else added 16 256
    (λ row column. if is_intra b.mode.reference then whole_sample b.mode.y (luma_edge (luma_edge_of p.width p.samples x y)) row column else inter_sample from (luma_vector b.mode row column) false (pos (x + column)) (pos (y + row)))
    (residue_at 4 (luma_residues s b)))
    (sym h.luma)

pub luma_placed : (from : Plane) (s : Factors) (b : Macroblock) (p p' : Plane) (x y : ℕ) (xs : List ℕ) → IsInter b.mode
    → xs ≡ added 16 256 (λ row column. inter_sample from (luma_vector b.mode row column) false (pos (x + column)) (pos (y + row))) (residue_at 4 (luma_residues s b))
    → p' ≡ put_square 16 x y xs p → p' ≡ put_square 16 x y (luma_built from s b p x y) p
luma_placed from s b p p' x y xs inter built h = h ∙ ap (λ (zs : List ℕ). put_square 16 x y zs p) (built ∙ luma_same from s b p x y inter)

chroma_same : (from : Plane) (s : Factors) (b : Macroblock) (first : ℕ) (p : Plane) (x y : ℕ) → IsInter b.mode
    → added 8 64 (λ row column. inter_sample from (chroma_vector b.mode row column) true (pos (x + column)) (pos (y + row))) (residue_at 2 (chroma_residues s b first)) ≡ chroma_built from s b first p x y
unfolding chroma_built
chroma_same from s b first p x y h =
    ap (λ (t : Bool).
    added 8 64
    (λ row column. if t then whole_sample b.mode.chroma (chroma_edge (chroma_edge_of p.width p.samples x y)) row column else inter_sample from (chroma_vector b.mode row column) true (pos (x + column)) (pos (y + row)))
    (residue_at 2 (chroma_residues s b first)))
    (sym h.reference)

pub chroma_placed : (from : Plane) (s : Factors) (b : Macroblock) (first : ℕ) (p p' : Plane) (x y : ℕ) (xs : List ℕ) → IsInter b.mode
    → xs ≡ added 8 64 (λ row column. inter_sample from (chroma_vector b.mode row column) true (pos (x + column)) (pos (y + row))) (residue_at 2 (chroma_residues s b first))
    → p' ≡ put_square 8 x y xs p → p' ≡ put_square 8 x y (chroma_built from s b first p x y) p
chroma_placed from s b first p p' x y xs inter built h = h ∙ ap (λ (zs : List ℕ). put_square 8 x y zs p) (built ∙ chroma_same from s b first p x y inter)
