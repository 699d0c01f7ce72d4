-- How many bits a macroblock's modes and vectors are written as at most.
use Rattle.std.proofs.Common.{◌≡◌, ℕ, suc, zero, ◌+◌, ◌*◌, ◌≤◌, ℤ, List, [], ◌∷◌, ◌++◌, Bool, true, false, not, ◌==◌, nat_lt, if◌then◌else◌, Option, Some, None, length, length-append, refl, ap, arith, subst, lit≤, take, slice_index, slice_index_or, slice_range, unsigned_abs, ◌-ℤ◌}
use Rattle.sal_base.specs.declared.kinds.Vector.{Vector}
use Rattle.sal_base.specs.declared.kinds.YMode.{YMode}
use Rattle.sal_base.specs.declared.kinds.SubMode.{SubMode}
use Rattle.sal_base.specs.declared.kinds.SubMode.TheVariants.{BDC}
use Rattle.sal_tables.specs.declared.tree.Entry.{Entry}
use Rattle.sal_tables.specs.declared.tree.Entry.TheVariants.{Leaf, Pair}
use Rattle.sal_tables.specs.Tables.{key_y_probabilities_of, key_chroma_probabilities_of}
use Rattle.sal_tables.specs.Trees.{segment_entries, key_y_entries, inter_y_entries, chroma_entries, subblock_entries, vector_mode_entries, short_vector_entries}
use Rattle.sal_probs.specs.Probabilities.{Table}
use Rattle.sal_header.specs.declared.header.Header.{Header}
use Rattle.sal_bool.specs.Syntax.{entry_at}
use Rattle.sal_bool.specs.Pairs.{Pairs, pair, is_negative, ended, either, way, taken, leaf_pairs, leaf_pairs_from, pairs_when}
use Rattle.sal_macroblock.specs.declared.mode.MbMode.{MbMode}
use Rattle.sal_macroblock.specs.Macroblocks.{is_intra, is_b, own_vector}
use Rattle.sal_modes.specs.Around.{Around}
use Rattle.sal_modes.specs.IntraModes.{sub_number, sub_probabilities}
use Rattle.sal_modes.specs.Modes.{mode_row}
use Rattle.sal_modes.specs.Written.{whole_number, vector_number, subs_pairs, y_pairs, chroma_pairs, intra_pairs, bits_at_pairs, long_pairs, size_pairs, component_pairs, vector_pairs, is_new, is_last, is_alt, near_for, inter_pairs, mb_pairs}

-- a way through a tree
leaf_end : (b : Bool) (n : ℕ) (path : Pairs) → (if b then Some [] else None) ≡ Some path → length path ≤ n
leaf_end true n path e = let p : [] ≡ path = cc in let P : Pairs → Type 0 = λ q. length q ≤ n in subst P p (omega arith)
leaf_end false n path e = cc

ended_short : (go : ℕ → Option Pairs) (n x : ℕ) (e : Entry) (path : Pairs) → ((k : ℕ) (q : Pairs) → go k ≡ Some q → length q ≤ n) → ended go x e ≡ Some path → length path ≤ n
ended_short go n x (Leaf l) path ih e = leaf_end (l == x) n path e
ended_short go n x (Pair k) path ih e = ih k path e

either_short : (at n : ℕ) (o p : Option Pairs) (path : Pairs) → ((q : Pairs) → o ≡ Some q → length q ≤ n) → ((q : Pairs) → p ≡ Some q → length q ≤ n) → either at o p ≡ Some path → length path ≤ suc n
either_short at n (Some a) p path ho hp e =
    let same : (at, false) ∷ a ≡ path = cc in
    let few = ho a refl in
    let P : Pairs → Type 0 = λ q. length q ≤ suc n in
    subst P same (omega (arith, few))
either_short at n None (Some b) path ho hp e =
    let same : (at, true) ∷ b ≡ path = cc in
    let few = hp b refl in
    let P : Pairs → Type 0 = λ q. length q ≤ suc n in
    subst P same (omega (arith, few))
either_short at n None None path ho hp e = cc

way_short : (n : ℕ) (es : List Entry) (at x : ℕ) (path : Pairs) → way n es at x ≡ Some path → length path ≤ n
unfolding way
way_short zero es at x path e = cc
way_short (suc n) es at x path e =
    either_short _ n _ _ path (λ q h. ended_short (λ k. way n es k x) n x (entry_at es at false) q (λ k. way_short n es k x) h) (λ q h. ended_short (λ k. way n es k x) n x (entry_at es at true) q (λ k. way_short n es k x) h) e

taken_long : (ps : List ℕ) (path : Pairs) → length (taken ps (Some path)) ≡ length path
taken_long ps [] = refl
taken_long ps (x ∷ path) = ap suc (taken_long ps path)

taken_short : (ps : List ℕ) (o : Option Pairs) (n : ℕ) → ((q : Pairs) → o ≡ Some q → length q ≤ n) → length (taken ps o) ≤ n
taken_short ps None n h = omega arith
taken_short ps (Some path) n h =
    let few = h path refl in
    let same : length (taken ps (Some path)) ≡ length path = taken_long ps path in
    omega (arith, few, same)

leaf_short : (es : List Entry) (ps : List ℕ) (x n : ℕ) → length es ≡ n → length (leaf_pairs es ps x) ≤ n
unfolding leaf_pairs_from
leaf_short es ps x n e = let few = taken_short ps (way (length es) es 0 x) (length es) (λ q h. way_short (length es) es 0 x q h) in omega (arith, few, e)

-- the lengths of the trees
segment_long : length segment_entries ≡ 6
unfolding segment_entries
segment_long = refl

key_y_long : length key_y_entries ≡ 8
unfolding key_y_entries
key_y_long = refl

inter_y_long : length inter_y_entries ≡ 8
unfolding inter_y_entries
inter_y_long = refl

chroma_long : length chroma_entries ≡ 6
unfolding chroma_entries
chroma_long = refl

sub_long : length subblock_entries ≡ 18
unfolding subblock_entries
sub_long = refl

vector_mode_long : length vector_mode_entries ≡ 8
unfolding vector_mode_entries
vector_mode_long = refl

short_long : length short_vector_entries ≡ 14
unfolding short_vector_entries
short_long = refl

-- one part after the other, and parts that are there or not
parts_short : (xs ys : Pairs) (m n : ℕ) → length xs ≤ m → length ys ≤ n → length (xs ++ ys) ≤ m + n
parts_short xs ys m n a b = let e = length-append xs ys in omega (arith, a, b, e)

when_short : (b : Bool) (qs : Pairs) (n : ℕ) → length qs ≤ n → length (pairs_when b qs) ≤ n
when_short true qs n h = h
when_short false qs n h = omega arith

none_short : (n : ℕ) → length {A = ℕ × Bool} [] ≤ n
none_short n = omega arith

-- an intra macroblock
y_short : (key : Bool) (probs : Table) (y : YMode) → length (y_pairs key probs y) ≤ 8
y_short true probs y = leaf_short key_y_entries key_y_probabilities_of (whole_number y) 8 key_y_long
y_short false probs y = leaf_short inter_y_entries probs.y (whole_number y) 8 inter_y_long

subs_short : (key : Bool) (a : Around) (subs : List SubMode) (k n : ℕ) → length (subs_pairs key a subs k n) ≤ 18 * n
unfolding subs_pairs
subs_short key a subs k zero = omega arith
subs_short key a subs k (suc n) =
    let few = parts_short (leaf_pairs subblock_entries (sub_probabilities key a (take k subs)) (sub_number (slice_index_or subs k BDC))) (subs_pairs key a subs (k + 1) n) 18 (18 * n) (leaf_short subblock_entries (sub_probabilities key a (take k subs)) (sub_number (slice_index_or subs k BDC)) 18 sub_long) (subs_short key a subs (k + 1) n) in
    omega (arith, few)

intra_short : (key : Bool) (probs : Table) (a : Around) (m : MbMode) → length (intra_pairs key probs a m) ≤ 302
unfolding intra_pairs
intra_short key probs a m =
    parts_short (y_pairs key probs m.y) _ 8 294 (y_short key probs m.y)
    (parts_short (pairs_when (is_b m.y) (subs_pairs key a m.sub 0 16)) _ 288 6 (when_short (is_b m.y) (subs_pairs key a m.sub 0 16) 288 (subs_short key a m.sub 0 16))
    (parts_short (chroma_pairs key probs m.chroma) [] 6 0 (leaf_short chroma_entries (if key then key_chroma_probabilities_of else probs.chroma) (whole_number m.chroma) 6 chroma_long) (none_short 0)))

-- vectors
bits_short : (ps is : List ℕ) (x : ℕ) → length (bits_at_pairs ps is x) ≤ length is
unfolding bits_at_pairs
bits_short ps [] x = omega arith
bits_short ps (i ∷ is) x = let few = bits_short ps is x in omega (arith, few)

long_short : (ps : List ℕ) (x : ℕ) → length (long_pairs ps x) ≤ 10
unfolding long_pairs
long_short ps x = parts_short (bits_at_pairs ps (0 ∷ 1 ∷ 2 ∷ 9 ∷ 8 ∷ 7 ∷ 6 ∷ 5 ∷ 4 ∷ []) x) _ 9 1 (bits_short ps (0 ∷ 1 ∷ 2 ∷ 9 ∷ 8 ∷ 7 ∷ 6 ∷ 5 ∷ 4 ∷ []) x) (by_low (nat_lt x 16))
  where
    by_low : (b : Bool) → length (if b then [] else bits_at_pairs ps (3 ∷ []) x) ≤ 1
    by_low true = none_short 1
    by_low false = bits_short ps (3 ∷ []) x

size_few : (ps : List ℕ) (x : ℕ) → length (size_pairs ps x) ≤ 14
unfolding size_pairs
size_few ps x = by_short (nat_lt x 8)
  where
    by_short : (b : Bool) → length (if b then leaf_pairs short_vector_entries (slice_range ps 2 9) x else long_pairs ps x) ≤ 14
    by_short true = leaf_short short_vector_entries (slice_range ps 2 9) x 14 short_long
    by_short false = let few = long_short ps x in omega (arith, few)

component_short : (ps : List ℕ) (z : ℤ) → length (component_pairs ps z) ≤ 16
unfolding component_pairs
component_short ps z =
    let long : Pairs = pair (slice_index ps 0) (not (nat_lt (unsigned_abs z) 8)) ∷ [] in
    let sign : Pairs = pair (slice_index ps 1) (is_negative z) ∷ [] in
    let there : Bool = not (unsigned_abs z == 0) in
    parts_short long _ 1 15 (lit≤ tt) (parts_short (size_pairs ps (unsigned_abs z)) _ 14 1 (size_few ps (unsigned_abs z)) (parts_short (pairs_when there sign) [] 1 0 (when_short there sign 1 (lit≤ tt)) (none_short 0)))

vector_short : (ps : List ℕ) (best v : Vector) → length (vector_pairs ps best v) ≤ 32
unfolding vector_pairs
vector_short ps best v =
    parts_short (component_pairs (slice_range ps 0 19) (v.row -ℤ best.row)) _ 16 16 (component_short (slice_range ps 0 19) (v.row -ℤ best.row))
    (parts_short (component_pairs (slice_range ps 19 38) (v.column -ℤ best.column)) [] 16 0 (component_short (slice_range ps 19 38) (v.column -ℤ best.column)) (none_short 0))

inter_short : (h : Header) (probs : Table) (a : Around) (m : MbMode) → length (inter_pairs h probs a m) ≤ 42
unfolding inter_pairs
inter_short h probs a m =
    let later : Pairs = pair h.prob_last (not (is_last m.reference)) ∷ [] in
    let alt : Pairs = pair h.prob_golden (is_alt m.reference) ∷ [] in
    let vectors : Pairs = vector_pairs probs.vectors (near_for h a m.reference).best (own_vector m) in
    parts_short later _ 1 41 (lit≤ tt)
    (parts_short (pairs_when (not (is_last m.reference)) alt) _ 1 40 (when_short (not (is_last m.reference)) alt 1 (lit≤ tt))
    (parts_short (leaf_pairs vector_mode_entries (mode_row (near_for h a m.reference).counts) (vector_number m.y)) _ 8 32 (leaf_short vector_mode_entries (mode_row (near_for h a m.reference).counts) (vector_number m.y) 8 vector_mode_long)
    (parts_short (pairs_when (is_new m.y) vectors) [] 32 0 (when_short (is_new m.y) vectors 32 (vector_short probs.vectors (near_for h a m.reference).best (own_vector m))) (none_short 0))))

pub mb_short : (h : Header) (probs : Table) (a : Around) (m : MbMode) → length (mb_pairs h probs a m) ≤ 310
unfolding mb_pairs
mb_short h probs a m =
    let skip : Pairs = pair h.prob_skip m.skip ∷ [] in
    let inter : Pairs = pair h.prob_intra (not (is_intra m.reference)) ∷ [] in
    parts_short (pairs_when h.update_map (leaf_pairs segment_entries h.map m.segment)) _ 6 304 (when_short h.update_map (leaf_pairs segment_entries h.map m.segment) 6 (leaf_short segment_entries h.map m.segment 6 segment_long))
    (parts_short (pairs_when h.skips skip) _ 1 303 (when_short h.skips skip 1 (lit≤ tt))
    (parts_short (pairs_when (not h.key) inter) _ 1 302 (when_short (not h.key) inter 1 (lit≤ tt))
    (parts_short (if is_intra m.reference then intra_pairs h.key probs a m else inter_pairs h probs a m) [] 302 0 (by_kind (is_intra m.reference)) (none_short 0))))
  where
    by_kind : (b : Bool) → length (if b then intra_pairs h.key probs a m else inter_pairs h probs a m) ≤ 302
    by_kind true = intra_short h.key probs a m
    by_kind false = let few = inter_short h probs a m in omega (arith, few)
