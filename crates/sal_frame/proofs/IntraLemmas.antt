-- Intra macroblocks in their places.
use Rattle.std.proofs.Common.{◌≡◌, ◌∙◌, ◌<◌, ◌≤◌, ◌+◌, ◌*◌, ℕ, pos, List, Bool, true, false, if◌then◌else◌, refl, sym, ap, arith}
use Rattle.std.proofs.Math.Nat.{mul-le-mul_right}
use Rattle.sal_base.specs.declared.picture.Plane.{Plane}
use Rattle.sal_base.specs.declared.kinds.YMode.{YMode}
use Rattle.sal_base.specs.declared.kinds.YMode.TheVariants.{B}
use Rattle.sal_macroblock.specs.declared.mode.RefKind.TheVariants.{Intra}
use Rattle.sal_macroblock.specs.Macroblocks.{is_b, is_intra}
use Rattle.sal_intra.specs.declared.edge.LumaEdge.{LumaEdge}
use Rattle.sal_intra.specs.declared.edge.ChromaEdge.{ChromaEdge}
use Rattle.sal_intra.specs.Edges.{luma_edge_of, chroma_edge_of}
use Rattle.sal_intra.specs.Intra.{whole_sample, luma_edge, chroma_edge}
use Rattle.sal_inter.specs.Inter.{inter_sample}
use Rattle.sal_transform.specs.Factors.{Factors}
use Rattle.sal_frame.specs.Records.{Macroblock}
use Rattle.sal_frame.specs.Residues.{luma_residues, chroma_residues, residue_at}
use Rattle.sal_frame.specs.Built.{added, subs_built, luma_vector, chroma_vector, luma_built, chroma_built, put_square}
use Rattle.sal_frame.specs.Intra.{intra_luma, intra_chroma}

-- by mode
pub in_b : (s : Factors) (b : Macroblock) (e : LumaEdge) (xs : List ℕ) → b.mode.y ≡ B → xs ≡ subs_built e b.mode (luma_residues s b) 16 → xs ≡ intra_luma s b e
unfolding intra_luma
in_b s b e xs is h =
    h ∙ sym (ap (λ (t : Bool). if t then subs_built e b.mode (luma_residues s b) 16 else added 16 256 (whole_sample b.mode.y (luma_edge e)) (residue_at 4 (luma_residues s b))) (ap is_b is))

not_b : (y : YMode) → (y ≡ B → ⊥) → is_b y ≡ false
not_b B h = absurd (h refl)
not_b y h = refl

pub in_whole : (s : Factors) (b : Macroblock) (e : LumaEdge) (xs : List ℕ) → (b.mode.y ≡ B → ⊥) → xs ≡ added 16 256 (whole_sample b.mode.y (luma_edge e)) (residue_at 4 (luma_residues s b)) → xs ≡ intra_luma s b e
unfolding intra_luma
in_whole s b e xs is h =
    h ∙ sym (ap (λ (t : Bool). if t then subs_built e b.mode (luma_residues s b) 16 else added 16 256 (whole_sample b.mode.y (luma_edge e)) (residue_at 4 (luma_residues s b))) (not_b b.mode.y is))

luma_same : (from : Plane) (s : Factors) (b : Macroblock) (p : Plane) (x y : ℕ) → b.mode.reference ≡ Intra → intra_luma s b (luma_edge_of p.width p.samples x y) ≡ luma_built from s b p x y
unfolding intra_luma luma_built
luma_same from s b p x y intra =
    ap (λ (t : Bool).
    if is_b b.mode.y then subs_built (luma_edge_of p.width p.samples x y) b.mode (luma_residues s b) 16
    else added 16 256
    (λ row column. if t then whole_sample b.mode.y (luma_edge (luma_edge_of p.width p.samples x y)) row column else inter_sample from (luma_vector b.mode row column) false (pos (x + column)) (pos (y + row)))
    (residue_at 4 (luma_residues s b)))
    (sym (ap is_intra intra))

pub luma_placed : (from : Plane) (s : Factors) (b : Macroblock) (p p' : Plane) (x y : ℕ) (e : LumaEdge) (xs : List ℕ) → b.mode.reference ≡ Intra → e ≡ luma_edge_of p.width p.samples x y
    → xs ≡ intra_luma s b e → p' ≡ put_square 16 x y xs p → p' ≡ put_square 16 x y (luma_built from s b p x y) p
luma_placed from s b p p' x y e xs intra around built h =
    h ∙ ap (λ (zs : List ℕ). put_square 16 x y zs p) (built ∙ (ap (λ (f : LumaEdge). intra_luma s b f) around ∙ luma_same from s b p x y intra))

chroma_same : (from : Plane) (s : Factors) (b : Macroblock) (first : ℕ) (p : Plane) (x y : ℕ) → b.mode.reference ≡ Intra → intra_chroma s b first (chroma_edge_of p.width p.samples x y) ≡ chroma_built from s b first p x y
unfolding intra_chroma chroma_built
chroma_same from s b first p x y intra =
    ap (λ (t : Bool).
    added 8 64
    (λ row column. if t then whole_sample b.mode.chroma (chroma_edge (chroma_edge_of p.width p.samples x y)) row column else inter_sample from (chroma_vector b.mode row column) true (pos (x + column)) (pos (y + row)))
    (residue_at 2 (chroma_residues s b first)))
    (sym (ap is_intra intra))

pub chroma_placed : (from : Plane) (s : Factors) (b : Macroblock) (first : ℕ) (p p' : Plane) (x y : ℕ) (e : ChromaEdge) (xs : List ℕ) → b.mode.reference ≡ Intra → e ≡ chroma_edge_of p.width p.samples x y
    → xs ≡ intra_chroma s b first e → p' ≡ put_square 8 x y xs p → p' ≡ put_square 8 x y (chroma_built from s b first p x y) p
chroma_placed from s b first p p' x y e xs intra around built h =
    h ∙ ap (λ (zs : List ℕ). put_square 8 x y zs p) (built ∙ (ap (λ (f : ChromaEdge). intra_chroma s b first f) around ∙ chroma_same from s b first p x y intra))

-- the rows of a macroblock lie in a plane
pub luma_rows : (columns rows row width long : ℕ) → row < rows → width ≡ 16 * columns → long ≡ 16 * columns * (16 * rows) → (16 * row + 16) * width ≤ long
luma_rows columns rows row width long lt e f =
    let le : 16 * row + 16 ≤ 16 * rows = omega arith in
    let wide : (16 * row + 16) * width ≤ 16 * rows * width = mul-le-mul_right width le in
    let same : 16 * rows * width ≡ 16 * rows * (16 * columns) = ap (λ (w : ℕ). 16 * rows * w) e in
    omega arith

pub chroma_rows : (columns rows row width long : ℕ) → row < rows → width ≡ 8 * columns → long ≡ 8 * columns * (8 * rows) → (8 * row + 8) * width ≤ long
chroma_rows columns rows row width long lt e f =
    let le : 8 * row + 8 ≤ 8 * rows = omega arith in
    let wide : (8 * row + 8) * width ≤ 8 * rows * width = mul-le-mul_right width le in
    let same : 8 * rows * width ≡ 8 * rows * (8 * columns) = ap (λ (w : ℕ). 8 * rows * w) e in
    omega arith
