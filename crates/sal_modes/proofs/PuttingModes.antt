-- Bits of modes and vectors put one after the other.
use Rattle.std.proofs.Common.{◌≡◌, ℕ, suc, zero, ◌+◌, ◌-◌, ◌<◌, ◌≤◌, ◌∙◌, ℤ, List, [], ◌∷◌, ◌++◌, Bool, true, false, not, ◌&&◌, nat_lt, nat_le, inl, inr, pos, negsuc, unsigned_abs, Option, Some, length, take, drop, get_or, slice_index, slice_index_or, slice_range, refl, sym, ap, arith, subst, add-one, drop-cons, Result, OnOk}
use Rattle.std.proofs.lemmas.List.{drop_all}
use Rattle.std.proofs.lemmas.Bool.{ltb-true, lt-ltb, le-ltb, lt-leb, le-leb, cases_lt}
use Rattle.std.proofs.lemmas.Int.{ints}
use Rattle.sal_base.specs.declared.kinds.YMode.{YMode}
use Rattle.sal_base.specs.declared.kinds.YMode.TheVariants.{DC, V, H, TM, B, NEAREST, NEAR, ZERO, NEW, SPLIT}
use Rattle.sal_macroblock.specs.Sizes.{Within}
use Rattle.sal_macroblock.specs.Macroblocks.{is_b, is_intra_mode}
use Rattle.sal_base.specs.declared.kinds.SubMode.{SubMode}
use Rattle.sal_base.specs.declared.kinds.SubMode.TheVariants.{BDC}
use Rattle.sal_tables.specs.declared.tree.Entry.{Entry}
use Rattle.sal_tables.specs.Trees.{subblock_entries, short_vector_entries}
use Rattle.sal_bool.specs.Bits.{Interval, next}
use Rattle.sal_bool.specs.Written.{steps}
use Rattle.sal_bool.specs.Syntax.{byte}
use Rattle.sal_bool.specs.Pairs.{Pairs, pair, bit_in, way, taken, leaf_pairs, leaf_pairs_from}
use Rattle.sal_bool.proofs.Meaning.{steps_append}
use Rattle.sal_modes.specs.Around.{Around}
use Rattle.sal_modes.specs.IntraModes.{sub_number, sub_probabilities}
use Rattle.sal_modes.specs.Written.{are_below, subs_pairs, bits_at_pairs, long_pairs, size_pairs}

-- with these still to be put from here on it is all
pub record Rest (i : Interval) (qs : Pairs) (start : Interval) (whole : Pairs) : Type 0 where
  pub all : steps i qs ≡ steps start whole

pub rest_start : (i : Interval) (qs : Pairs) → Rest i qs i qs
rest_start i qs = record { all = refl }

pub rest_same : (i s : Interval) (qs rs w : Pairs) → qs ≡ rs → Rest i qs s w → Rest i rs s w
rest_same i s qs rs w e h = let P : Pairs → Type 0 = λ zs. Rest i zs s w in subst P e h

pub rest_put : (xs ys w : Pairs) (i j s : Interval) → j ≡ steps i xs → Rest i (xs ++ ys) s w → Rest j ys s w
rest_put xs ys w i j s e h = record { all = ap (λ m. steps m ys) e ∙ (sym (steps_append xs ys i) ∙ h.all) }

both : (a b : Bool) → (a && b) ≡ true → (a ≡ true) × (b ≡ true)
both true true h = (refl, refl)
both true false h = cc
both false b h = cc

-- the way to a leaf
pub below_at : (n : ℕ) (path : Pairs) (i : ℕ) (d : ℕ × Bool) → are_below n path ≡ true → i < length path → (get_or path i d).0 < n
below_at n [] i d h lt = absurd (omega (arith, lt))
below_at n (x ∷ path) zero d h lt = ltb-true _ _ (both _ _ h).0
below_at n (x ∷ path) (suc i) d h lt = below_at n path i d (both _ _ h).1 (omega (arith, lt))

pub way_more : (ps : List ℕ) (path : Pairs) (k : ℕ) (d : ℕ × Bool) (p : ℕ) (w : Pairs) (i j s : Interval) → k < length path → slice_index ps (get_or path k d).0 ≡ p → p < 256 → j ≡ next i p (get_or path k d).1
    → Rest i (taken ps (Some (drop k path))) s w → Rest j (taken ps (Some (drop (k + 1) path))) s w
way_more ps path k d p w i j s lt same fits put h =
    let here : drop k path ≡ get_or path k d ∷ drop (k + 1) path = rw add-one (drop-cons path k d lt) in
    let whole : byte (slice_index ps (get_or path k d).0) ≡ p = omega (arith, same, fits) in
    let e : taken ps (Some (drop k path)) ≡ ((p, (get_or path k d).1) ∷ []) ++ taken ps (Some (drop (k + 1) path)) =
    ap (λ (xs : Pairs). taken ps (Some xs)) here ∙ ap (λ (n : ℕ). let q : ℕ × Bool = (n, (get_or path k d).1) in q ∷ taken ps (Some (drop (k + 1) path))) whole in
    rest_put ((p, (get_or path k d).1) ∷ []) _ w i j s put (rest_same i s _ _ w e h)

pub way_all : (ps : List ℕ) (path : Pairs) (k : ℕ) (w : Pairs) (i s : Interval) → length path ≤ k → Rest i (taken ps (Some (drop k path))) s w → i ≡ steps s w
way_all ps path k w i s le h = (rest_same i s _ _ w (ap (λ (xs : Pairs). taken ps (Some xs)) (drop_all k path le)) h).all

-- the pairs of a leaf, by the way to it
pub leaf_taken : (es : List Entry) (ps qs : List ℕ) (x : ℕ) (path : Pairs) → ps ≡ qs → way (length es) es 0 x ≡ Some path → taken ps (Some path) ≡ leaf_pairs es qs x
unfolding leaf_pairs_from
leaf_taken es ps qs x path e h = ap (λ (ns : List ℕ). taken ns (Some path)) e ∙ ap (λ (o : Option Pairs). taken qs o) (sym h)

-- what is so of pairs is so of the same pairs
pub put_same : {Y E : Type 0} (i j : Interval) (qs rs : Pairs) (r : Result Y E) → qs ≡ rs → OnOk r (j ≡ steps i qs) → OnOk r (j ≡ steps i rs)
put_same i j qs rs r e h = let P : Pairs → Type 0 = λ zs. OnOk r (j ≡ steps i zs) in subst P e h

pub put_none : (i : Interval) (qs : Pairs) → [] ≡ qs → i ≡ steps i qs
put_none i qs e = ap (λ (zs : Pairs). steps i zs) e

-- a list of probabilities that is long enough
pub below_long : (n m : ℕ) (path : Pairs) → m ≡ n → are_below n path ≡ true → are_below m path ≡ true
below_long n m path e h = let P : ℕ → Type 0 = λ k. are_below k path ≡ true in subst P (sym e) h

-- one more subblock mode
subs_here : (key : Bool) (a : Around) (subs : List SubMode) (k : ℕ) → k < 16
    → subs_pairs key a subs k (16 - k) ≡ leaf_pairs subblock_entries (sub_probabilities key a (take k subs)) (sub_number (slice_index_or subs k BDC)) ++ subs_pairs key a subs (k + 1) (16 - (k + 1))
unfolding subs_pairs
subs_here key a subs k lt = let more : 16 - k ≡ suc (16 - (k + 1)) = omega (arith, lt) in ap (λ n. subs_pairs key a subs k n) more

pub subs_more : (key : Bool) (a : Around) (subs : List SubMode) (k : ℕ) (s : SubMode) (ps : List ℕ) (path w : Pairs) (i j t : Interval) → k < 16 → s ≡ slice_index_or subs k BDC → ps ≡ sub_probabilities key a (take k subs)
    → way (length subblock_entries) subblock_entries 0 (sub_number s) ≡ Some path → j ≡ steps i (taken ps (Some path)) → Rest i (subs_pairs key a subs k (16 - k)) t w → Rest j (subs_pairs key a subs (k + 1) (16 - (k + 1))) t w
subs_more key a subs k s ps path w i j t lt is same found put h =
    let here : taken ps (Some path) ≡ leaf_pairs subblock_entries (sub_probabilities key a (take k subs)) (sub_number (slice_index_or subs k BDC)) =
    leaf_taken subblock_entries ps (sub_probabilities key a (take k subs)) (sub_number s) path same found ∙ ap (λ (m : SubMode). leaf_pairs subblock_entries (sub_probabilities key a (take k subs)) (sub_number m)) is in
    rest_put _ _ w i j t (put ∙ ap (λ (zs : Pairs). steps i zs) here) (rest_same i t _ _ w (subs_here key a subs k lt) h)

pub subs_all : (key : Bool) (a : Around) (subs : List SubMode) (k : ℕ) (w : Pairs) (i t : Interval) → 16 ≤ k → Rest i (subs_pairs key a subs k (16 - k)) t w → i ≡ steps t w
unfolding subs_pairs
subs_all key a subs k w i t le h =
    let none : 16 - k ≡ 0 = omega (arith, le) in
    (rest_same i t _ _ w (ap (λ n. subs_pairs key a subs k n) none) h).all

-- one more bit of a number
bits_here : (ps is : List ℕ) (x k : ℕ) → k < length is → bits_at_pairs ps (drop k is) x ≡ pair (slice_index ps (9 + get_or is k 0)) (bit_in x (get_or is k 0)) ∷ bits_at_pairs ps (drop (k + 1) is) x
unfolding bits_at_pairs
bits_here ps is x k lt =
    let here : drop k is ≡ get_or is k 0 ∷ drop (k + 1) is = rw add-one (drop-cons is k 0 lt) in
    ap (λ (ns : List ℕ). bits_at_pairs ps ns x) here

pub bits_more : (ps is : List ℕ) (x k p : ℕ) (b : Bool) (w : Pairs) (i j s : Interval) → k < length is → slice_index ps (9 + get_or is k 0) ≡ p → p < 256 → b ≡ bit_in x (get_or is k 0) → j ≡ next i p b
    → Rest i (bits_at_pairs ps (drop k is) x) s w → Rest j (bits_at_pairs ps (drop (k + 1) is) x) s w
bits_more ps is x k p b w i j s lt same fits bit put h =
    let whole : byte (slice_index ps (9 + get_or is k 0)) ≡ p = omega (arith, same, fits) in
    let e : bits_at_pairs ps (drop k is) x ≡ ((p, b) ∷ []) ++ bits_at_pairs ps (drop (k + 1) is) x =
    bits_here ps is x k lt ∙ (ap (λ (n : ℕ). let q : ℕ × Bool = (n, bit_in x (get_or is k 0)) in q ∷ bits_at_pairs ps (drop (k + 1) is) x) whole ∙ ap (λ (c : Bool). let q : ℕ × Bool = (p, c) in q ∷ bits_at_pairs ps (drop (k + 1) is) x) (sym bit)) in
    rest_put ((p, b) ∷ []) _ w i j s put (rest_same i s _ _ w e h)

pub bits_all : (ps is : List ℕ) (x k : ℕ) (w : Pairs) (i s : Interval) → length is ≤ k → Rest i (bits_at_pairs ps (drop k is) x) s w → i ≡ steps s w
unfolding bits_at_pairs
bits_all ps is x k w i s le h = (rest_same i s _ _ w (ap (λ (ns : List ℕ). bits_at_pairs ps ns x) (drop_all k is le)) h).all

-- a bit
pub one_put : (p : ℕ) (b c : Bool) (i j : Interval) → p < 256 → b ≡ c → j ≡ next i p b → j ≡ steps i (pair p c ∷ [])
one_put p b c i j fits e h = let same : p ≡ byte p = omega arith in h ∙ (ap (λ (d : Bool). next i p d) e ∙ ap (λ (n : ℕ). next i n c) same)

-- long sizes
pub long_high : (ps : List ℕ) (x : ℕ) → 16 ≤ x → bits_at_pairs ps (0 ∷ 1 ∷ 2 ∷ 9 ∷ 8 ∷ 7 ∷ 6 ∷ 5 ∷ 4 ∷ []) x ++ bits_at_pairs ps (3 ∷ []) x ≡ long_pairs ps x
unfolding long_pairs
long_high ps x le = rw (le-ltb x 16 le) refl

pub long_low : (ps : List ℕ) (x : ℕ) → x < 16 → bits_at_pairs ps (0 ∷ 1 ∷ 2 ∷ 9 ∷ 8 ∷ 7 ∷ 6 ∷ 5 ∷ 4 ∷ []) x ++ [] ≡ long_pairs ps x
unfolding long_pairs
long_low ps x lt = rw (lt-ltb x 16 lt) refl

pub size_short : (ps : List ℕ) (x : ℕ) → x < 8 → leaf_pairs short_vector_entries (slice_range ps 2 9) x ≡ size_pairs ps x
unfolding size_pairs
size_short ps x lt = rw (lt-ltb x 8 lt) refl

pub size_long : (ps : List ℕ) (x : ℕ) → 8 ≤ x → long_pairs ps x ≡ size_pairs ps x
unfolding size_pairs
size_long ps x le = rw (le-ltb x 8 le) refl

pub not_below : (n : ℕ) → nat_le 8 n ≡ not (nat_lt n 8)
not_below n = elim (cases_lt n 8) [
  | inl lt ↦ rw (lt-leb 8 n lt, lt-ltb n 8 lt) refl
  | inr le ↦ rw (le-leb 8 n le, le-ltb n 8 le) refl
]

-- a difference that is small passes as it is
pub abs_within : (z : ℤ) → unsigned_abs z ≤ 1023 → Within 1023 z
abs_within (pos n) h = (omega (arith, ints), omega (arith, ints, h))
abs_within (negsuc n) h = (omega (arith, ints, h), omega (arith, ints))

-- a macroblock with a mode for each subblock is intra
pub never_b : (y : YMode) → is_intra_mode y ≡ false → is_b y ≡ true → ⊥
never_b DC h e = cc
never_b V h e = cc
never_b H h e = cc
never_b TM h e = cc
never_b B h e = cc
never_b NEAREST h e = cc
never_b NEAR h e = cc
never_b ZERO h e = cc
never_b NEW h e = cc
never_b SPLIT h e = cc

pub only_b : (y : YMode) → is_b y ≡ true → y ≡ B
only_b DC e = cc
only_b V e = cc
only_b H e = cc
only_b TM e = cc
only_b B e = refl
only_b NEAREST e = cc
only_b NEAR e = cc
only_b ZERO e = cc
only_b NEW e = cc
only_b SPLIT e = cc
