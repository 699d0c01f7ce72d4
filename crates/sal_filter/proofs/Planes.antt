-- Macroblocks plane by plane, and rows of them.
use Rattle.std.proofs.Common.{◌≡◌, ◌∙◌, ap, refl, sym, arith, ℕ, suc, ◌+◌, ◌*◌, ◌/◌, ◌%◌, ◌<◌, ◌≤◌, Bool, true, false, List, [], ◌∷◌, ◌++◌, length, add-zero, zero-mul, mul-le-mul_right, subst, nat_lt, nat_eq, cond, take, drop, get_or}
use Rattle.std.proofs.lemmas.List.{drop_more, drop_all, length-take-le, take_all, length-drop}
use Rattle.std.proofs.lemmas.Nat.{mod-mul-add, div-mul-add}
use Rattle.std.proofs.Math.Seq.{take-add}
use Rattle.sal_base.specs.declared.picture.Plane.{Plane}
use Rattle.sal_base.specs.declared.picture.Planes.{Planes}
use Rattle.sal_filter.specs.declared.head.FilterHead.{FilterHead}
use Rattle.sal_filter.specs.declared.head.MbInfo.{MbInfo}
use Rattle.sal_filter.specs.declared.limits.Limits.{Limits}
use Rattle.sal_filter.specs.declared.edge.Edge.{Edge}
use Rattle.sal_filter.specs.declared.block.Square.{Square}
use Rattle.std.proofs.lemmas.Bool.Decides.{nat_tests}
use Rattle.sal_filter.specs.Filtered.{on, on_planes, edge_of, vertical, horizontal, mb_filtered, info_filtered, all_filtered, filtered}
use Rattle.sal_filter.specs.Blocks.{HasSides, fourths, square_at, square_filtered}

-- one plane after its part of a macroblock
abbrev pub after : Edge → Edge → Bool → Square → Plane → Plane
after o i within s p = record p { samples = square_filtered o i within s p.samples }

positive_16 : (n : ℕ) → nat_lt 0 (16 * n) ≡ nat_lt 0 n
positive_16 n = grind (arith, nat_tests)

positive_8 : (n : ℕ) → nat_lt 0 (8 * n) ≡ nat_lt 0 n
positive_8 n = grind (arith, nat_tests)

-- the steps of the definition on one plane
luma_steps : Bool → Bool → Bool → Edge → Edge → ℕ → ℕ → Plane → Plane
luma_steps l t within o i x y p =
    let left = cond l (vertical o 16 x y 0 p) p in
    let upright = cond within (vertical i 16 x y 12 (vertical i 16 x y 8 (vertical i 16 x y 4 left))) left in
    let top = cond t (horizontal o 16 x y 0 upright) upright in
    cond within (horizontal i 16 x y 12 (horizontal i 16 x y 8 (horizontal i 16 x y 4 top))) top

chroma_steps : Bool → Bool → Bool → Edge → Edge → ℕ → ℕ → Plane → Plane
chroma_steps l t within o i x y p =
    let left = cond l (vertical o 8 x y 0 p) p in
    let upright = cond within (vertical i 8 x y 4 left) left in
    let top = cond t (horizontal o 8 x y 0 upright) upright in
    cond within (horizontal i 8 x y 4 top) top

luma_square : (l t within : Bool) (o i : Edge) (x y : ℕ) (p : Plane) → l ≡ nat_lt 0 x → t ≡ nat_lt 0 y
    → luma_steps l t within o i x y p ≡ after o i within (record { width = p.width; side = 16; x = x; y = y }) p
unfolding luma_steps square_filtered fourths
luma_square true true true o i x y p h v = rw (← h, ← v) refl
luma_square true true false o i x y p h v = rw (← h, ← v) refl
luma_square true false true o i x y p h v = rw (← h, ← v) refl
luma_square true false false o i x y p h v = rw (← h, ← v) refl
luma_square false true true o i x y p h v = rw (← h, ← v) refl
luma_square false true false o i x y p h v = rw (← h, ← v) refl
luma_square false false true o i x y p h v = rw (← h, ← v) refl
luma_square false false false o i x y p h v = rw (← h, ← v) refl

chroma_square : (l t within : Bool) (o i : Edge) (x y : ℕ) (p : Plane) → l ≡ nat_lt 0 x → t ≡ nat_lt 0 y
    → chroma_steps l t within o i x y p ≡ after o i within (record { width = p.width; side = 8; x = x; y = y }) p
unfolding chroma_steps square_filtered fourths
chroma_square true true true o i x y p h v = rw (← h, ← v) refl
chroma_square true true false o i x y p h v = rw (← h, ← v) refl
chroma_square true false true o i x y p h v = rw (← h, ← v) refl
chroma_square true false false o i x y p h v = rw (← h, ← v) refl
chroma_square false true true o i x y p h v = rw (← h, ← v) refl
chroma_square false true false o i x y p h v = rw (← h, ← v) refl
chroma_square false false true o i x y p h v = rw (← h, ← v) refl
chroma_square false false false o i x y p h v = rw (← h, ← v) refl

-- the definition's steps on all planes, its tests as variables
steps : (l t within simple : Bool) (o i : Edge) (column row : ℕ) → Planes → Planes
steps l t within true o i column row p = record p { y = luma_steps l t within o i (16 * column) (16 * row) p.y }
steps l t within false o i column row p = record {
  y = luma_steps l t within o i (16 * column) (16 * row) p.y;
  u = chroma_steps l t within o i (8 * column) (8 * row) p.u;
  v = chroma_steps l t within o i (8 * column) (8 * row) p.v;
}

with_tests : Bool → Bool → Bool → Bool → Edge → Edge → ℕ → ℕ → Planes → Planes
with_tests l t within simple o i column row p =
    let x = 16 * column in
    let y = 16 * row in
    let left = on l (on_planes simple (vertical o 16 x y 0) (vertical o 8 (8 * column) (8 * row) 0)) p in
    let upright = on within (on_planes simple (λ q. vertical i 16 x y 12 (vertical i 16 x y 8 (vertical i 16 x y 4 q))) (vertical i 8 (8 * column) (8 * row) 4)) left in
    let top = on t (on_planes simple (horizontal o 16 x y 0) (horizontal o 8 (8 * column) (8 * row) 0)) upright in
    on within (on_planes simple (λ q. horizontal i 16 x y 12 (horizontal i 16 x y 8 (horizontal i 16 x y 4 q))) (horizontal i 8 (8 * column) (8 * row) 4)) top

steps_are : (l t within simple : Bool) (o i : Edge) (column row : ℕ) (p : Planes) → with_tests l t within simple o i column row p ≡ steps l t within simple o i column row p
unfolding with_tests steps luma_steps chroma_steps
steps_are true true true true o i column row p = refl
steps_are true true true false o i column row p = refl
steps_are true true false true o i column row p = refl
steps_are true true false false o i column row p = refl
steps_are true false true true o i column row p = refl
steps_are true false true false o i column row p = refl
steps_are true false false true o i column row p = refl
steps_are true false false false o i column row p = refl
steps_are false true true true o i column row p = refl
steps_are false true true false o i column row p = refl
steps_are false true false true o i column row p = refl
steps_are false true false false o i column row p = refl
steps_are false false true true o i column row p = refl
steps_are false false true false o i column row p = refl
steps_are false false false true o i column row p = refl
steps_are false false false false o i column row p = refl

mb_is : (simple : Bool) (l : Limits) (within : Bool) (column row : ℕ) (p : Planes)
    → mb_filtered simple l within column row p ≡ with_tests (nat_lt 0 column) (nat_lt 0 row) within simple (edge_of simple true l) (edge_of simple false l) column row p
unfolding mb_filtered with_tests
mb_is simple l within column row p = refl

luma_is : (o i : Edge) (within : Bool) (column row : ℕ) (p : Plane) → luma_steps (nat_lt 0 column) (nat_lt 0 row) within o i (16 * column) (16 * row) p ≡ after o i within (square_at p.width 16 column row) p
luma_is o i within column row p = luma_square _ _ _ _ _ _ _ _ (sym (positive_16 column)) (sym (positive_16 row))

chroma_is : (o i : Edge) (within : Bool) (column row : ℕ) (p : Plane) → chroma_steps (nat_lt 0 column) (nat_lt 0 row) within o i (8 * column) (8 * row) p ≡ after o i within (square_at p.width 8 column row) p
chroma_is o i within column row p = chroma_square _ _ _ _ _ _ _ _ (sym (positive_8 column)) (sym (positive_8 row))

planes_equal : (y y' u u' v v' : Plane) → y ≡ y' → u ≡ u' → v ≡ v' → (let p : Planes = record { y = y; u = u; v = v } in p) ≡ record { y = y'; u = u'; v = v' }
planes_equal y y' u u' v v' a b c = cc

with_y : (p : Planes) (y y' : Plane) → y ≡ y' → (let q : Planes = record p { y = y } in q) ≡ record p { y = y' }
with_y p y y' e = ap (λ (x : Plane). (let q : Planes = record p { y = x } in q)) e

same_after : (o o' i i' : Edge) (within : Bool) (s s' : Square) (p : Plane) → o ≡ o' → i ≡ i' → s ≡ s' → after o i within s p ≡ after o' i' within s' p
same_after o o' i i' within s s' p a b c = rw (a, b, c) refl

steps_simple : (l t within simple : Bool) (o i : Edge) (column row : ℕ) (p : Planes) → simple ≡ true
    → steps l t within simple o i column row p ≡ record p { y = luma_steps l t within o i (16 * column) (16 * row) p.y }
unfolding steps
steps_simple l t within simple o i column row p e = rw e refl

steps_normal : (l t within simple : Bool) (o i : Edge) (column row : ℕ) (p : Planes) → simple ≡ false
    → steps l t within simple o i column row p ≡ record {
      y = luma_steps l t within o i (16 * column) (16 * row) p.y;
      u = chroma_steps l t within o i (8 * column) (8 * row) p.u;
      v = chroma_steps l t within o i (8 * column) (8 * row) p.v;
    }
unfolding steps
steps_normal l t within simple o i column row p e = rw e refl

-- a macroblock by the simple filter, and by the normal one
pub mb_simple : (simple : Bool) (l : Limits) (within : Bool) (column row : ℕ) (o i : Edge) (s : Square) (p : Planes) (y : Plane) → simple ≡ true
    → o ≡ edge_of simple true l → i ≡ edge_of simple false l → s ≡ square_at p.y.width 16 column row → y ≡ after o i within s p.y
    → (let q : Planes = record p { y = y } in q) ≡ mb_filtered simple l within column row p
mb_simple simple l within column row o i s p y e eo ei es h =
    with_y p y _ (h ∙ (same_after o (edge_of simple true l) i (edge_of simple false l) within s (square_at p.y.width 16 column row) p.y eo ei es ∙ sym (luma_is (edge_of simple true l) (edge_of simple false l) within column row p.y)))
    ∙ sym (mb_is simple l within column row p ∙ (steps_are (nat_lt 0 column) (nat_lt 0 row) within simple (edge_of simple true l) (edge_of simple false l) column row p
    ∙ steps_simple (nat_lt 0 column) (nat_lt 0 row) within simple (edge_of simple true l) (edge_of simple false l) column row p e))

pub mb_normal : (simple : Bool) (l : Limits) (within : Bool) (column row : ℕ) (o i : Edge) (s t : Square) (p : Planes) (y u v : Plane) → simple ≡ false
    → o ≡ edge_of simple true l → i ≡ edge_of simple false l → s ≡ square_at p.y.width 16 column row → t ≡ square_at p.u.width 8 column row → p.v.width ≡ p.u.width
    → y ≡ after o i within s p.y → u ≡ after o i within t p.u → v ≡ after o i within t p.v
    → (let q : Planes = record { y = y; u = u; v = v } in q) ≡ mb_filtered simple l within column row p
mb_normal simple l within column row o i s t p y u v e eo ei es et w hy hu hv =
    let oo = edge_of simple true l in
    let ii = edge_of simple false l in
    let ev : t ≡ square_at p.v.width 8 column row = et ∙ ap (λ (k : ℕ). square_at k 8 column row) (sym w) in
    planes_equal y _ u _ v _
    (hy ∙ (same_after o oo i ii within s (square_at p.y.width 16 column row) p.y eo ei es ∙ sym (luma_is oo ii within column row p.y)))
    (hu ∙ (same_after o oo i ii within t (square_at p.u.width 8 column row) p.u eo ei et ∙ sym (chroma_is oo ii within column row p.u)))
    (hv ∙ (same_after o oo i ii within t (square_at p.v.width 8 column row) p.v eo ei ev ∙ sym (chroma_is oo ii within column row p.v)))
    ∙ sym (mb_is simple l within column row p ∙ (steps_are (nat_lt 0 column) (nat_lt 0 row) within simple oo ii column row p
    ∙ steps_normal (nat_lt 0 column) (nat_lt 0 row) within simple oo ii column row p e))

one_step : (h : FilterHead) (c k next : ℕ) (ms rest : List MbInfo) (m : MbInfo) (p q : Planes) → ms ≡ m ∷ rest → next ≡ k + 1 → q ≡ info_filtered h (k % c) (k / c) m p
    → all_filtered h c next rest q ≡ all_filtered h c k ms p
unfolding all_filtered
one_step h c k next ms rest m p q em en eq = rw (em, en, eq) refl

-- no macroblock of a row, one more, and all of them
pub row_none : (h : FilterHead) (columns k : ℕ) (ms : List MbInfo) (p : Planes) → all_filtered h columns (k + 0) (drop 0 ms) p ≡ all_filtered h columns k ms p
row_none h columns k ms p = ap (λ (n : ℕ). all_filtered h columns n ms p) (add-zero k)

pub row_more : (h : FilterHead) (row i : ℕ) (ms : List MbInfo) (d : MbInfo) (p q : Planes) (r : Planes) → i < length ms → q ≡ info_filtered h i row (get_or ms i d) p
    → all_filtered h (length ms) (row * length ms + i) (drop i ms) p ≡ r → all_filtered h (length ms) (row * length ms + (i + 1)) (drop (i + 1) ms) q ≡ r
row_more h row i ms d p q r lt step so_far =
    let k = row * length ms + i in
    let m = get_or ms i d in
    one_step h (length ms) k (row * length ms + (i + 1)) (drop i ms) (drop (i + 1) ms) m p q (drop_more ms i d lt) (omega arith)
    (step ∙ (ap (λ (a : ℕ). info_filtered h a row m p) (sym (mod-mul-add row (length ms) i lt)) ∙ ap (λ (b : ℕ). info_filtered h (k % length ms) b m p) (sym (div-mul-add row (length ms) i lt))))
    ∙ so_far

pub row_all : (h : FilterHead) (columns k n : ℕ) (ms : List MbInfo) (p r : Planes) → length ms ≤ n → all_filtered h columns k (drop n ms) p ≡ r → p ≡ r
unfolding all_filtered
row_all h columns k n ms p r le e = ap (λ (xs : List MbInfo). all_filtered h columns k xs p) (sym (drop_all n ms le)) ∙ e

-- rows one after the other
pub all_joined : (h : FilterHead) (columns k : ℕ) (ms ns : List MbInfo) (p : Planes) → all_filtered h columns k (ms ++ ns) p ≡ all_filtered h columns (k + length ms) ns (all_filtered h columns k ms p)
unfolding all_filtered
all_joined h columns k [] ns p = ap (λ (n : ℕ). all_filtered h columns n ns p) (sym (add-zero k))
all_joined h columns k (m ∷ ms) ns p =
    let first = info_filtered h (k % columns) (k / columns) m p in
    let same : (k + 1) + length ms ≡ k + suc (length ms) = omega arith in
    all_joined h columns (k + 1) ms ns first ∙ ap (λ (n : ℕ). all_filtered h columns n ns (all_filtered h columns (k + 1) ms first)) same

pub no_rows : (h : FilterHead) (columns : ℕ) (ms : List MbInfo) (p : Planes) → p ≡ all_filtered h columns 0 (take (0 * columns) ms) p
unfolding all_filtered
no_rows h columns ms p =
    let e : p ≡ all_filtered h columns 0 (take 0 ms) p = refl in
    e ∙ ap (λ (n : ℕ). all_filtered h columns 0 (take n ms) p) (sym (zero-mul columns))

pub rows_more : (h : FilterHead) (columns rows row n : ℕ) (ms : List MbInfo) (start p q : Planes) → length ms ≡ columns * rows → row < rows → n ≡ columns
    → p ≡ all_filtered h columns 0 (take (row * columns) ms) start
    → q ≡ all_filtered h (length (take n (drop (row * columns) ms))) (row * length (take n (drop (row * columns) ms))) (take n (drop (row * columns) ms)) p
    → q ≡ all_filtered h columns 0 (take ((row + 1) * columns) ms) start
rows_more h columns rows row n ms start p q all below same so_far step =
    let within : (row + 1) * columns ≤ rows * columns = mul-le-mul_right columns (omega arith) in
    let part = take columns (drop (row * columns) ms) in
    let long : length (take (row * columns) ms) ≡ row * columns = length-take-le (row * columns) ms (omega (arith, within, all)) in
    let count : length part ≡ columns = length-take-le columns (drop (row * columns) ms) (omega (arith, within, all, length-drop (row * columns) ms)) in
    let at : row * columns ≡ 0 + length (take (row * columns) ms) = omega (arith, long) in
    let more : (row + 1) * columns ≡ row * columns + columns = omega arith in
    step ∙ (ap (λ (k : ℕ). all_filtered h (length (take k (drop (row * columns) ms))) (row * length (take k (drop (row * columns) ms))) (take k (drop (row * columns) ms)) p) same
    ∙ (ap (λ (k : ℕ). all_filtered h k (row * k) part p) count
    ∙ (ap (all_filtered h columns (row * columns) part) so_far
    ∙ (ap (λ (k : ℕ). all_filtered h columns k part (all_filtered h columns 0 (take (row * columns) ms) start)) at
    ∙ (sym (all_joined h columns 0 (take (row * columns) ms) part start)
    ∙ (ap (λ (xs : List MbInfo). all_filtered h columns 0 xs start) (sym (take-add (row * columns) columns ms)) ∙ ap (λ (k : ℕ). all_filtered h columns 0 (take k ms) start) (sym more)))))))

nonzero : (n : ℕ) → (n ≡ 0 → ⊥) → nat_eq n 0 ≡ false
nonzero n h = grind (arith, nat_tests)

pub all_rows : (h : FilterHead) (rows row : ℕ) (ms : List MbInfo) (start p : Planes) → length ms ≡ start.y.width / 16 * rows → row ≡ rows → (h.level ≡ 0 → ⊥)
    → p ≡ all_filtered h (start.y.width / 16) 0 (take (row * (start.y.width / 16)) ms) start → p ≡ filtered h ms start
unfolding filtered
all_rows h rows row ms start p long last some so_far =
    let n = start.y.width / 16 in
    let here : length ms ≡ n * row = long ∙ ap (λ (k : ℕ). n * k) (sym last) in
    rw (nonzero h.level some) (so_far ∙ ap (λ (xs : List MbInfo). all_filtered h n 0 xs start) (take_all (row * n) ms (omega (arith, here))))

pub no_level : (h : FilterHead) (ms : List MbInfo) (p : Planes) → h.level ≡ 0 → p ≡ filtered h ms p
unfolding filtered
no_level h ms p none = rw none refl

-- sides stay from call to call
pub sides_from : (width height : ℕ) (p q : Planes) → HasSides width height p → HasSides p.y.width p.y.height q → HasSides width height q
sides_from width height p q s t =
    let half : HasSides p.y.width height q = subst (λ (k : ℕ). HasSides p.y.width k q) s.y.height t in
    subst (λ (k : ℕ). HasSides k height q) s.y.width half
