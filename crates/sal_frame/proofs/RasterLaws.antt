-- Macroblocks in raster order, one more.
use Rattle.std.proofs.Common.{◌≡◌, ◌∙◌, ◌≤◌, ◌<◌, ◌+◌, ◌*◌, ◌/◌, ◌%◌, ℕ, suc, zero, ℤ, List, [], ◌∷◌, ◌++◌, Bool, true, false, if◌then◌else◌, length, refl, ap, arith}
use Rattle.std.proofs.lemmas.List.{length-replicate}
use Rattle.std.proofs.Math.Nat.{mul-le-mul_right}
use Rattle.sal_base.specs.declared.picture.Plane.{Plane}
use Rattle.sal_base.specs.declared.picture.Planes.{Planes}
use Rattle.sal_base.specs.Picture.{IsPlane}
use Rattle.sal_base.specs.Samples.{listed_from}
use Rattle.sal_intra.specs.declared.edge.LumaEdge.{LumaEdge}
use Rattle.sal_macroblock.specs.declared.mode.MbMode.{MbMode}
use Rattle.sal_transform.specs.Factors.{Factors}
use Rattle.sal_state.specs.States.{References, HasBlocks}
use Rattle.sal_frame.specs.Records.{Macroblock, Record, columns_of, segment_factors}
use Rattle.sal_frame.specs.Built.{put_square, subs_built, luma_built, chroma_built, one_built, all_built, blanks}
use Rattle.sal_frame.proofs.SquarePlaces.{Lies, rows_length}

-- one macroblock more after those from the k-th on
more_from : (r : References) (f : Record) (k : ℕ) (bs : List Macroblock) (b : Macroblock) (p : Planes)
    → all_built r f k (bs ++ b ∷ []) p ≡ one_built r (segment_factors f.header b.mode.segment) b ((k + length bs) % columns_of f) ((k + length bs) / columns_of f) (all_built r f k bs p)
unfolding all_built
more_from r f k [] b p =
    let e : k ≡ k + 0 = omega arith in
    ap (λ (n : ℕ). one_built r (segment_factors f.header b.mode.segment) b (n % columns_of f) (n / columns_of f) p) e
more_from r f k (a ∷ bs) b p =
    let e : (k + 1) + length bs ≡ k + suc (length bs) = omega arith in
    let q : Planes = one_built r (segment_factors f.header a.mode.segment) a (k % columns_of f) (k / columns_of f) p in
    more_from r f (k + 1) bs b q
    ∙ ap (λ (n : ℕ). one_built r (segment_factors f.header b.mode.segment) b (n % columns_of f) (n / columns_of f) (all_built r f (k + 1) bs q)) e

pub one_more : (r : References) (f : Record) (bs : List Macroblock) (b : Macroblock) (p : Planes)
    → all_built r f 0 (bs ++ b ∷ []) p ≡ one_built r (segment_factors f.header b.mode.segment) b (length bs % columns_of f) (length bs / columns_of f) (all_built r f 0 bs p)
one_more r f bs b p =
    let e : 0 + length bs ≡ length bs = omega arith in
    more_from r f 0 bs b p ∙ ap (λ (n : ℕ). one_built r (segment_factors f.header b.mode.segment) b (n % columns_of f) (n / columns_of f) (all_built r f 0 bs p)) e

length_listed : {A : Type 0} (k n : ℕ) (f : ℕ → A) → length (listed_from k n f) ≡ n
unfolding listed_from
length_listed k zero f = refl
length_listed k (suc n) f = omega (arith, length_listed (k + 1) n f)

subs_length : (e : LumaEdge) (m : MbMode) (residues : List (List ℤ)) (n : ℕ) → n ≤ 16 → length (subs_built e m residues n) ≡ 256
unfolding subs_built
subs_length e m residues zero le = length-replicate {A = ℕ} 256 0
subs_length e m residues (suc n) le =
    let before : length (subs_built e m residues n) ≡ 256 = subs_length e m residues n (omega arith) in
    rows_length 16 (4 * (n % 4)) (4 * (n / 4)) 4 _ (subs_built e m residues n) (record { block = length_listed 0 16 _; column = omega arith; rows = omega arith }) 4 (omega arith) ∙ before

either_long : (t : Bool) (xs ys : List ℕ) → length xs ≡ 256 → length ys ≡ 256 → length (if t then xs else ys) ≡ 256
either_long true xs ys hx hy = hx
either_long false xs ys hx hy = hy

luma_length : (from : Plane) (s : Factors) (b : Macroblock) (p : Plane) (x y : ℕ) → length (luma_built from s b p x y) ≡ 256
unfolding luma_built
luma_length from s b p x y = either_long _ _ _ (subs_length _ _ _ 16 (omega arith)) (length_listed 0 256 _)

chroma_length : (from : Plane) (s : Factors) (b : Macroblock) (first : ℕ) (p : Plane) (x y : ℕ) → length (chroma_built from s b first p x y) ≡ 64
unfolding chroma_built
chroma_length from s b first p x y = length_listed 0 64 _

-- a square written into a plane leaves its size
plane_size : (side x y columns rows : ℕ) (block : List ℕ) (p : Plane) → IsPlane columns rows p → length block ≡ side * side → x + side ≤ columns → y + side ≤ rows → IsPlane columns rows (put_square side x y block p)
plane_size side x y columns rows block p h long across down =
    let w : p.width ≡ columns = h.width in
    let wide : (y + side) * p.width ≤ rows * p.width = mul-le-mul_right p.width down in
    let same : rows * p.width ≡ rows * columns = ap (λ (n : ℕ). rows * n) w in
    let samples : length p.samples ≡ columns * rows = h.samples in
    let lies : Lies p.width x y side block p.samples = record { block = long; column = omega arith; rows = omega arith } in
    record { width = h.width; height = h.height; samples = rows_length p.width x y side block p.samples lies side (omega arith) ∙ h.samples }

-- planes with one macroblock more have as many
pub one_size : (r : References) (s : Factors) (b : Macroblock) (column row columns rows : ℕ) (p : Planes) → HasBlocks columns rows p → column < columns → row < rows → HasBlocks columns rows (one_built r s b column row p)
unfolding one_built
one_size r s b column row columns rows p h across down = record {
  y = plane_size 16 (16 * column) (16 * row) (16 * columns) (16 * rows) _ p.y h.y (luma_length _ _ _ _ _ _) (omega arith) (omega arith);
  u = plane_size 8 (8 * column) (8 * row) (8 * columns) (8 * rows) _ p.u h.u (chroma_length _ _ _ _ _ _ _) (omega arith) (omega arith);
  v = plane_size 8 (8 * column) (8 * row) (8 * columns) (8 * rows) _ p.v h.v (chroma_length _ _ _ _ _ _ _) (omega arith) (omega arith);
}

pub blank_size : (columns rows : ℕ) → HasBlocks columns rows (blanks columns rows)
blank_size columns rows = record {
  y = record { width = refl; height = refl; samples = length-replicate {A = ℕ} _ 0 };
  u = record { width = refl; height = refl; samples = length-replicate {A = ℕ} _ 0 };
  v = record { width = refl; height = refl; samples = length-replicate {A = ℕ} _ 0 };
}
