-- The unfiltered planes of a frame: macroblock by macroblock, each sample its prediction and its residue, cut off. Sections
-- are those of RFC 6386.
use Rattle.std.specs.Prelude.{ℕ, suc, zero, ◌+◌, ◌*◌, ◌/◌, ◌%◌, ℤ, pos, ◌+ℤ◌, List, [], ◌∷◌, true, false, Option, Some, None, if◌then◌else◌, slice_index_or, replicate}
use Rattle.sal_base.specs.Samples.{clamped, block_of, square_put}
use Rattle.sal_base.specs.Pictures.{blank, blocks_of}
use Rattle.sal_base.specs.declared.picture.Plane.{Plane}
use Rattle.sal_base.specs.declared.picture.Planes.{Planes}
use Rattle.sal_base.specs.declared.kinds.SubMode.TheVariants.{BDC}
use Rattle.sal_base.specs.declared.kinds.Vector.{Vector}
use Rattle.sal_macroblock.specs.declared.mode.RefKind.{RefKind}
use Rattle.sal_macroblock.specs.declared.mode.RefKind.TheVariants.{Intra, Last, Golden, Alt}
use Rattle.sal_macroblock.specs.declared.mode.MbMode.{MbMode}
use Rattle.sal_macroblock.specs.Macroblocks.{own_vector, vector_at, is_intra, is_split, is_b}
use Rattle.sal_intra.specs.declared.edge.LumaEdge.{LumaEdge}
use Rattle.sal_intra.specs.Intra.{whole_sample, luma_edge, chroma_edge}
use Rattle.sal_intra.specs.Sub.{sub_sample}
use Rattle.sal_intra.specs.Edges.{luma_edge_of, chroma_edge_of, sub_edge_of}
use Rattle.sal_inter.specs.Inter.{inter_sample, mean_vector}
use Rattle.sal_transform.specs.Factors.{Factors}
use Rattle.sal_state.specs.States.{References}
use Rattle.sal_frame.specs.Records.{Macroblock, Record, columns_of, segment_factors}
use Rattle.sal_frame.specs.Residues.{luma_residues, chroma_residues, residue_at}

-- a prediction and a residue, cut off at 0 and at 255 (14.5)
abbrev pub sum_cut : ℕ → ℤ → ℕ
sum_cut prediction residue = clamped (pos prediction +ℤ residue)

-- n samples in rows of a width, by the prediction and the residue at each place
abbrev pub added : ℕ → ℕ → (ℕ → ℕ → ℕ) → (ℕ → ℕ → ℤ) → List ℕ
added width n prediction residue = block_of width n (λ row column. sum_cut (prediction row column) (residue row column))

-- the samples of subblock n of a macroblock in mode B, after those before it
abbrev pub sub_built : LumaEdge → MbMode → List (List ℤ) → ℕ → List ℕ → List ℕ
sub_built e m residues n before =
    let edge = sub_edge_of e before (4 * (n % 4)) (4 * (n / 4)) in
    let own = slice_index_or residues n [] in
    added 4 16 (sub_sample (slice_index_or m.sub n BDC) edge) (residue_at 1 (own ∷ []))

-- the first n subblocks of a macroblock in mode B, each predicted from those before it (12.3)
unfoldable pub subs_built : LumaEdge → MbMode → List (List ℤ) → ℕ → List ℕ
subs_built e m residues zero = replicate 256 0
subs_built e m residues (suc n) =
    let before = subs_built e m residues n in
    square_put 16 (4 * (n % 4)) (4 * (n / 4)) 4 (sub_built e m residues n before) before

-- the vector of a luma sample: that of its block
abbrev pub luma_vector : MbMode → ℕ → ℕ → Vector
luma_vector m row column = vector_at m.vectors (4 * (row / 4) + column / 4)

-- the mean of the vectors of four luma blocks, the first of which is block k
abbrev pub quarter_vector : List Vector → ℕ → Vector
quarter_vector vs k = mean_vector (vector_at vs k) (vector_at vs (k + 1)) (vector_at vs (k + 4)) (vector_at vs (k + 5))

-- the vector of a chroma sample: the macroblock's, or in parts the mean of those of its block's four luma blocks (18.3)
abbrev pub chroma_vector : MbMode → ℕ → ℕ → Vector
chroma_vector m row column = if is_split m.y then quarter_vector m.vectors (8 * (row / 4) + 2 * (column / 4)) else own_vector m

-- the planes that a macroblock is predicted from; one that is intra needs none
abbrev pub reference : References → RefKind → Planes
reference r Intra = r.last
reference r Last = r.last
reference r Golden = r.golden
reference r Alt = r.alt

-- the prediction of the luma sample at a row and column of a macroblock that begins at column x, row y, not in mode B
abbrev pub luma_prediction : Plane → MbMode → Plane → ℕ → ℕ → ℕ → ℕ → ℕ
luma_prediction from m p x y =
    let edge = luma_edge (luma_edge_of p.width p.samples x y) in
    λ row column.
    if is_intra m.reference then whole_sample m.y edge row column
    else inter_sample from (luma_vector m row column) false (pos (x + column)) (pos (y + row))

-- the luma samples of a macroblock, from the reference's plane and the plane built so far
unfoldable pub luma_built : Plane → Factors → Macroblock → Plane → ℕ → ℕ → List ℕ
luma_built from s b p x y =
    let residues = luma_residues s b in
    if is_b b.mode.y then subs_built (luma_edge_of p.width p.samples x y) b.mode residues 16
    else added 16 256 (luma_prediction from b.mode p x y) (residue_at 4 residues)

-- the same in a chroma plane
abbrev pub chroma_prediction : Plane → MbMode → Plane → ℕ → ℕ → ℕ → ℕ → ℕ
chroma_prediction from m p x y =
    let edge = chroma_edge (chroma_edge_of p.width p.samples x y) in
    λ row column.
    if is_intra m.reference then whole_sample m.chroma edge row column
    else inter_sample from (chroma_vector m row column) true (pos (x + column)) (pos (y + row))

unfoldable pub chroma_built : Plane → Factors → Macroblock → ℕ → Plane → ℕ → ℕ → List ℕ
chroma_built from s b first p x y =
    let residues = chroma_residues s b first in
    added 8 64 (chroma_prediction from b.mode p x y) (residue_at 2 residues)

abbrev pub put_square : ℕ → ℕ → ℕ → List ℕ → Plane → Plane
put_square side x y block p = record p { samples = square_put p.width x y side block p.samples }

-- the planes with one macroblock more, at this column and row
unfoldable pub one_built : References → Factors → Macroblock → ℕ → ℕ → Planes → Planes
one_built r s b column row p =
    let from = reference r b.mode.reference in
    record {
      y = put_square 16 (16 * column) (16 * row) (luma_built from.y s b p.y (16 * column) (16 * row)) p.y;
      u = put_square 8 (8 * column) (8 * row) (chroma_built from.u s b 16 p.u (8 * column) (8 * row)) p.u;
      v = put_square 8 (8 * column) (8 * row) (chroma_built from.v s b 20 p.v (8 * column) (8 * row)) p.v;
    }

-- the macroblocks from the k-th on, in raster order
unfoldable pub all_built : References → Record → ℕ → List Macroblock → Planes → Planes
all_built r f k [] p = p
all_built r f k (b ∷ bs) p = all_built r f (k + 1) bs (one_built r (segment_factors f.header b.mode.segment) b (k % columns_of f) (k / columns_of f) p)

-- planes of so many macroblocks with nothing built yet
abbrev pub blanks : ℕ → ℕ → Planes
blanks columns rows = record { y = blank (16 * columns) (16 * rows); u = blank (8 * columns) (8 * rows); v = blank (8 * columns) (8 * rows) }

-- a frame that needs no references is built over any
abbrev pub references_or : Planes → Option References → References
references_or p (Some r) = r
references_or p None = record { width = p.y.width; height = p.y.height; last = p; golden = p; alt = p }

-- the unfiltered planes of a frame
unfoldable pub built : Option References → Record → Planes
built r f =
    let empty = blanks (blocks_of f.width) (blocks_of f.height) in
    all_built (references_or empty r) f 0 f.blocks empty
