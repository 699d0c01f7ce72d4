-- Bits handed to a sink one after the other.
use Rattle.std.proofs.Common.{◌≡◌, ℕ, suc, zero, ◌+◌, ◌-◌, ◌<◌, ◌≤◌, ◌∙◌, ◌≢◌, ℤ, pos, negsuc, List, [], ◌∷◌, ◌++◌, Bool, true, false, ◌==◌, if◌then◌else◌, Option, Some, length, take, drop, get_or, min, append_assoc, slice_index, slice_index_or, refl, sym, ap, arith, subst, inl, inr, add-one, drop-cons, unsigned_abs, nat_lt, Result, OnOk, to_z, of_z, w32}
use Rattle.std.proofs.lemmas.List.{take_all, drop_all, length-drop, get_or-drop}
use Rattle.std.proofs.lemmas.Bool.{ltb-true, lt-ltb, le-ltb, cases_lt}
use Rattle.std.proofs.lemmas.Int.{ints}
use Rattle.sal_macroblock.specs.Sizes.{Within}
use Rattle.sal_bool.specs.Syntax.{byte}
use Rattle.sal_bool.specs.Pairs.{Pairs, bit_in, number_pairs, way}
use Rattle.sal_tables.specs.Tables.{category_bases_of, category_bits_of}
use Rattle.sal_tables.specs.Trees.{token_entries}
use Rattle.sal_tokens.specs.Coefficients.{first_position, is_some_coefficient}
use Rattle.sal_tokens.specs.Written.{Branch, Placed, Fixed, taken_all, ways, are_small, placed, fixed, token_of, token_branches, extra_branches, sign_branches, row_at, coefficients_branches, onto, trimmed, block_branches, category_count}
use Rattle.sal_tokens.proofs.WrittenBits.{way_at, token_large, extra_some, is_category, small_later, both, not_none}

pub taken_append : {X : Type 0} (f : X → Branch → X) (x : X) (us bs : List Branch) → taken_all f x (us ++ bs) ≡ taken_all f (taken_all f x us) bs
unfolding taken_all
taken_append f x [] bs = refl
taken_append f x (u ∷ us) bs = taken_append f (f x u) us bs

-- with these still to be taken from here on it is all
pub record Left {X : Type 0} (f : X → Branch → X) (x : X) (bs : List Branch) (s : X) (ws : List Branch) : Type 0 where
  pub all : taken_all f x bs ≡ taken_all f s ws

pub left_start : {X : Type 0} (f : X → Branch → X) (x : X) (bs : List Branch) → Left f x bs x bs
left_start f x bs = record { all = refl }

pub left_same : {X : Type 0} (f : X → Branch → X) (x s : X) (us bs ws : List Branch) → us ≡ bs → Left f x us s ws → Left f x bs s ws
left_same f x s us bs ws e h = let P : List Branch → Type 0 = λ cs. Left f x cs s ws in subst P e h

pub left_taken : {X : Type 0} (f : X → Branch → X) (x y s : X) (us bs ws : List Branch) → y ≡ taken_all f x us → Left f x (us ++ bs) s ws → Left f y bs s ws
left_taken f x y s us bs ws e h = record { all = ap (λ z. taken_all f z bs) e ∙ (sym (taken_append f x us bs) ∙ h.all) }

pub left_one : {X : Type 0} (f : X → Branch → X) (x y s : X) (b : Branch) (bs ws : List Branch) → y ≡ f x b → Left f x (b ∷ bs) s ws → Left f y bs s ws
unfolding taken_all
left_one f x y s b bs ws e h = record { all = ap (λ z. taken_all f z bs) e ∙ h.all }

pub left_none : {X : Type 0} (f : X → Branch → X) (x s : X) (ws : List Branch) → Left f x [] s ws → x ≡ taken_all f s ws
unfolding taken_all
left_none f x s ws h = h.all

-- some, and then others
pub taken_then : {X : Type 0} (f : X → Branch → X) (x y z : X) (us bs : List Branch) → y ≡ taken_all f x us → z ≡ taken_all f y bs → z ≡ taken_all f x (us ++ bs)
taken_then f x y z us bs a b = b ∙ (ap (λ v. taken_all f v bs) a ∙ sym (taken_append f x us bs))

-- the way to a leaf
pub small_at : (path : Pairs) (i : ℕ) (d : ℕ × Bool) → are_small path ≡ true → i < length path → (get_or path i d).0 < 11
small_at [] i d h lt = absurd (omega (arith, lt))
small_at (x ∷ path) zero d h lt = ltb-true _ _ (both _ _ h).0
small_at (x ∷ path) (suc i) d h lt = small_at path i d (both _ _ h).1 (omega (arith, lt))

way_here : (row : ℕ) (path : Pairs) (i : ℕ) (d : ℕ × Bool) → i < length path → placed row (Some (drop i path)) ≡ Placed (row + (get_or path i d).0) (get_or path i d).1 ∷ placed row (Some (drop (i + 1) path))
way_here row path i d lt =
    let here : drop i path ≡ get_or path i d ∷ drop (i + 1) path = rw add-one (drop-cons path i d lt) in
    ap (λ (ps : Pairs). placed row (Some ps)) here

pub way_more : {X : Type 0} (f : X → Branch → X) (x y s : X) (row : ℕ) (path : Pairs) (i : ℕ) (d : ℕ × Bool) (ws : List Branch) → i < length path → y ≡ f x (Placed (row + (get_or path i d).0) (get_or path i d).1)
    → Left f x (placed row (Some (drop i path))) s ws → Left f y (placed row (Some (drop (i + 1) path))) s ws
way_more f x y s row path i d ws lt e h = left_one f x y s _ _ ws e (left_same f x s _ _ ws (way_here row path i d lt) h)

pub way_all : {X : Type 0} (f : X → Branch → X) (x s : X) (row : ℕ) (path : Pairs) (i : ℕ) (ws : List Branch) → length path ≤ i → Left f x (placed row (Some (drop i path))) s ws → x ≡ taken_all f s ws
way_all f x s row path i ws le h = left_none f x s ws (left_same f x s _ _ ws (ap (λ (ps : Pairs). placed row (Some ps)) (drop_all i path le)) h)

-- a token's way, without its first step after a zero
abbrev pub skipped_steps : Bool → ℕ
skipped_steps after = if after then 1 else 0

end_taken : (row : ℕ) → placed row (Some (drop 1 (get_or ways 0 []))) ≡ placed row (way (length token_entries) token_entries 2 0)
unfolding ways way token_entries
end_taken row = refl

pub token_taken : (row t : ℕ) (after : Bool) → t < 12 → placed row (Some (drop (skipped_steps after) (get_or ways t []))) ≡ token_branches row after t
unfolding token_branches
token_taken row t false lt = ap (λ (o : Option Pairs). placed row o) (sym (way_at t lt).whole)
token_taken row zero true lt = end_taken row
token_taken row (suc t) true lt = ap (λ (o : Option Pairs). placed row o) (sym ((way_at (suc t) lt).later (omega arith)))

pub steps_small : (t : ℕ) (after : Bool) → t < 12 → are_small (drop (skipped_steps after) (get_or ways t [])) ≡ true
steps_small t false lt = (way_at t lt).small
steps_small t true lt = small_later (get_or ways t []) (way_at t lt).small

pub steps_long : (t : ℕ) (after : Bool) → t < 12 → skipped_steps after ≤ length (get_or ways t [])
steps_long t false lt = omega arith
steps_long t true lt = let long = (way_at t lt).long in omega (arith, long)

pub part_is : (n : ℕ) (path whole : Pairs) → path ≡ whole → take (length path - n) (drop n path) ≡ drop n whole
part_is n path whole e = take_all (length path - n) (drop n path) (omega (arith, length-drop n path)) ∙ ap (λ (ps : Pairs). drop n ps) e

-- tokens by their sizes
pub token_category : (size k : ℕ) → 5 ≤ size → category_count size ≡ k → 5 + k ≡ token_of size
token_category size k le e = ap (λ n. 5 + n) (sym e) ∙ sym (token_large size le)

-- the category of a token
category_at : (size t : ℕ) → 5 ≤ size → size ≤ 2114 → t ≡ token_of size → t - 6 ≡ category_count size - 1
category_at size t le most e =
    let some = (is_category size le most).some in
    let is = e ∙ token_large size le in
    omega (arith, some, is)

pub base_below : (size t : ℕ) (bases : List ℕ) → 5 ≤ size → size ≤ 2114 → t ≡ token_of size → bases ≡ category_bases_of → slice_index bases (t - 6) ≤ size
base_below size t bases le most e same =
    let at = category_at size t le most e in
    let P : ℕ → Type 0 = λ k. slice_index category_bases_of k ≤ size in
    let Q : List ℕ → Type 0 = λ bs. slice_index bs (t - 6) ≤ size in
    subst Q (sym same) (subst P (sym at) (is_category size le most).base)

pub extra_is : (size t : ℕ) (bases bits : List ℕ) → 5 ≤ size → size ≤ 2114 → t ≡ token_of size → bases ≡ category_bases_of → bits ≡ slice_index_or category_bits_of (t - 6) []
    → fixed (number_pairs bits (size - slice_index bases (t - 6))) ≡ extra_branches size
extra_is size t bases bits le most e same digits =
    let at = category_at size t le most e in
    ap (λ (qs : List ℕ). fixed (number_pairs qs (size - slice_index bases (t - 6)))) digits
    ∙ (ap (λ (bs : List ℕ). fixed (number_pairs (slice_index_or category_bits_of (t - 6) []) (size - slice_index bs (t - 6)))) same
    ∙ (ap (λ k. fixed (number_pairs (slice_index_or category_bits_of k []) (size - slice_index category_bases_of k))) at ∙ sym (extra_some size le)))

-- what is so of bits is so of the same bits
pub taken_same : {X Y E : Type 0} (f : X → Branch → X) (x y : X) (us bs : List Branch) (r : Result Y E) → us ≡ bs → OnOk r (y ≡ taken_all f x us) → OnOk r (y ≡ taken_all f x bs)
taken_same f x y us bs r e h = let P : List Branch → Type 0 = λ cs. OnOk r (y ≡ taken_all f x cs) in subst P e h

pub taken_none : {X : Type 0} (f : X → Branch → X) (x : X) (bs : List Branch) → [] ≡ bs → x ≡ taken_all f x bs
unfolding taken_all
taken_none f x bs e = ap (λ (cs : List Branch). taken_all f x cs) e

-- a number by its bits
number_here : (ps : List ℕ) (x i : ℕ) → i < length ps → fixed (number_pairs (drop i ps) x) ≡ Fixed (byte (get_or ps i 0)) (bit_in x (length ps - 1 - i)) ∷ fixed (number_pairs (drop (i + 1) ps) x)
unfolding number_pairs
number_here ps x i lt =
    let here : drop i ps ≡ get_or ps i 0 ∷ drop (i + 1) ps = rw add-one (drop-cons ps i 0 lt) in
    let long : length (drop (i + 1) ps) ≡ length ps - 1 - i = length-drop (i + 1) ps ∙ omega arith in
    ap (λ (qs : List ℕ). fixed (number_pairs qs x)) here ∙ ap (λ n. Fixed (byte (get_or ps i 0)) (bit_in x n) ∷ fixed (number_pairs (drop (i + 1) ps) x)) long

pub number_more : {X : Type 0} (f : X → Branch → X) (y z s : X) (ps : List ℕ) (x i p : ℕ) (b : Bool) (ws : List Branch) → i < length ps → get_or ps i 0 ≡ p → p < 256 → b ≡ bit_in x (length ps - 1 - i) → z ≡ f y (Fixed p b)
    → Left f y (fixed (number_pairs (drop i ps) x)) s ws → Left f z (fixed (number_pairs (drop (i + 1) ps) x)) s ws
number_more f y z s ps x i p b ws lt same fits is e h =
    let whole : byte (get_or ps i 0) ≡ p = omega (arith, same, fits) in
    let here = number_here ps x i lt ∙ ap (λ q. Fixed q (bit_in x (length ps - 1 - i)) ∷ fixed (number_pairs (drop (i + 1) ps) x)) whole in
    left_one f y z s (Fixed p (bit_in x (length ps - 1 - i))) _ ws (e ∙ ap (λ c. f y (Fixed p c)) is) (left_same f y s _ _ ws here h)

pub number_all : {X : Type 0} (f : X → Branch → X) (y s : X) (ps : List ℕ) (x i : ℕ) (ws : List Branch) → length ps ≤ i → Left f y (fixed (number_pairs (drop i ps) x)) s ws → y ≡ taken_all f s ws
unfolding number_pairs
number_all f y s ps x i ws le h = left_none f y s ws (left_same f y s _ _ ws (ap (λ (qs : List ℕ). fixed (number_pairs qs x)) (drop_all i ps le)) h)

-- how many coefficients stand before the end of a block
onto_longer : (z : ℤ) (ys : List ℤ) → 0 < length ys → length (onto z ys) ≡ suc (length ys)
onto_longer z [] lt = absurd (omega (arith, lt))
onto_longer z (y ∷ ys) lt = refl

onto_last : (z : ℤ) → z ≢ pos 0 → length (onto z []) ≡ 1
onto_last (pos zero) ne = absurd (ne refl)
onto_last (pos (suc n)) ne = rw (not_none n) refl
onto_last (negsuc n) ne = rw (not_none n) refl

trimmed_here : (zs : List ℤ) (k : ℕ) → k < length zs → trimmed (drop k zs) ≡ onto (get_or zs k (pos 0)) (trimmed (drop (k + 1) zs))
trimmed_here zs k lt =
    let here : drop k zs ≡ get_or zs k (pos 0) ∷ drop (k + 1) zs = rw add-one (drop-cons zs k (pos 0) lt) in
    ap trimmed here

trimmed_to : (zs : List ℤ) (n k : ℕ) → k + n < length zs → get_or zs (k + n) (pos 0) ≢ pos 0 → trimmed (drop (k + n + 1) zs) ≡ [] → length (trimmed (drop k zs)) ≡ n + 1
trimmed_to zs zero k lt ne none =
    let e : k + 0 ≡ k = omega arith in
    let here : k < length zs = omega (arith, lt) in
    let some : get_or zs k (pos 0) ≢ pos 0 = λ h. ne (ap (λ i. get_or zs i (pos 0)) e ∙ h) in
    let after : trimmed (drop (k + 1) zs) ≡ [] = ap (λ i. trimmed (drop (i + 1) zs)) (sym e) ∙ none in
    ap (λ (ys : List ℤ). length ys) (trimmed_here zs k here ∙ ap (λ (ys : List ℤ). onto (get_or zs k (pos 0)) ys) after) ∙ onto_last (get_or zs k (pos 0)) some
trimmed_to zs (suc n) k lt ne none =
    let e : k + 1 + n ≡ k + suc n = omega arith in
    let some : get_or zs (k + 1 + n) (pos 0) ≢ pos 0 = λ h. ne (ap (λ i. get_or zs i (pos 0)) (sym e) ∙ h) in
    let later = trimmed_to zs n (k + 1) (omega (arith, lt)) some (ap (λ i. trimmed (drop (i + 1) zs)) e ∙ none) in
    ap (λ (ys : List ℤ). length ys) (trimmed_here zs k (omega (arith, lt))) ∙ (onto_longer (get_or zs k (pos 0)) (trimmed (drop (k + 1) zs)) (omega (arith, later)) ∙ omega (arith, later))

pub end_here : (zs : List ℤ) (first i : ℕ) → first < i → i ≤ length zs → get_or zs (i - 1) (pos 0) ≢ pos 0 → trimmed (drop i zs) ≡ [] → i - 1 + 1 ≡ first + length (trimmed (drop first zs))
end_here zs first i lt le ne none =
    let at : first + (i - 1 - first) ≡ i - 1 = omega (arith, lt) in
    let past : first + (i - 1 - first) + 1 ≡ i = omega (arith, lt) in
    let some : get_or zs (first + (i - 1 - first)) (pos 0) ≢ pos 0 = λ h. ne (ap (λ k. get_or zs k (pos 0)) (sym at) ∙ h) in
    let long = trimmed_to zs (i - 1 - first) first (omega (arith, lt, le)) some (ap (λ k. trimmed (drop k zs)) past ∙ none) in
    omega (arith, lt, long)

trimmed_zero : (z : ℤ) (zs : List ℤ) → z ≡ pos 0 → trimmed zs ≡ [] → trimmed (z ∷ zs) ≡ []
trimmed_zero z zs e none = ap (λ (v : ℤ). onto v (trimmed zs)) e ∙ ap (λ (ys : List ℤ). onto (pos 0) ys) none

pub none_more : (zs : List ℤ) (i : ℕ) → 0 < i → i ≤ length zs → get_or zs (i - 1) (pos 0) ≡ pos 0 → trimmed (drop i zs) ≡ [] → trimmed (drop (i - 1) zs) ≡ []
none_more zs i some le e none =
    let past : i - 1 + 1 ≡ i = omega (arith, some) in
    trimmed_here zs (i - 1) (omega (arith, some, le)) ∙ (ap (λ (v : ℤ). onto v (trimmed (drop (i - 1 + 1) zs))) e ∙ ap (λ (ys : List ℤ). onto (pos 0) ys) (ap (λ k. trimmed (drop k zs)) past ∙ none))

pub none_past : (zs : List ℤ) (n : ℕ) → length zs ≤ n → trimmed (drop n zs) ≡ []
none_past zs n le = ap trimmed (drop_all n zs le)

-- coefficients that are written stand where they stood
onto_at : (z : ℤ) (zs ys : List ℤ) (i : ℕ) → i < length (onto z ys) → ((k : ℕ) → k < length ys → get_or ys k (pos 0) ≡ get_or zs k (pos 0)) → get_or (onto z ys) i (pos 0) ≡ get_or (z ∷ zs) i (pos 0)
onto_at z zs (y ∷ ys) zero lt h = refl
onto_at z zs (y ∷ ys) (suc i) lt h = h i (omega (arith, lt))
onto_at z zs [] i lt h = by_zero i (unsigned_abs z == 0) refl lt
  where
    by_zero : (k : ℕ) (b : Bool) → (unsigned_abs z == 0) ≡ b → k < length (if b then [] else z ∷ []) → get_or (if b then [] else z ∷ []) k (pos 0) ≡ get_or (z ∷ zs) k (pos 0)
    by_zero k true e less = absurd (omega (arith, less))
    by_zero zero false e less = refl
    by_zero (suc k) false e less = absurd (omega (arith, less))

trimmed_at : (zs : List ℤ) (i : ℕ) → i < length (trimmed zs) → get_or (trimmed zs) i (pos 0) ≡ get_or zs i (pos 0)
trimmed_at [] i lt = absurd (omega (arith, lt))
trimmed_at (z ∷ zs) i lt = onto_at z zs (trimmed zs) i lt (λ k less. trimmed_at zs k less)

-- a coefficient, and those after it
three_and : (us vs ws xs : List Branch) → us ++ (vs ++ (ws ++ xs)) ≡ (us ++ (vs ++ ws)) ++ xs
three_and us vs ws xs = ap (λ (bs : List Branch). us ++ bs) (sym (append_assoc vs ws xs)) ∙ sym (append_assoc us (vs ++ ws) xs)

abbrev pub one_branches : ℕ → Bool → ℤ → List Branch
one_branches row after z = token_branches row after (token_of (unsigned_abs z)) ++ (extra_branches (unsigned_abs z) ++ sign_branches z)

-- its token, its extra bits and its sign, one after the other
pub one_taken : {X : Type 0} (f : X → Branch → X) (w x y z : X) (row n t : ℕ) (after : Bool) (u v : ℤ) → v ≡ u → n ≡ unsigned_abs v → t ≡ token_of n
    → x ≡ taken_all f w (token_branches row after t) → y ≡ taken_all f x (extra_branches n) → z ≡ taken_all f y (sign_branches v) → z ≡ taken_all f w (one_branches row after u)
one_taken f w x y z row n t after u v same size token a b c =
    let long : n ≡ unsigned_abs u = size ∙ ap (λ (k : ℤ). unsigned_abs k) same in
    let first : t ≡ token_of (unsigned_abs u) = token ∙ ap token_of long in
    taken_then f w x z (token_branches row after (token_of (unsigned_abs u))) (extra_branches (unsigned_abs u) ++ sign_branches u) (a ∙ ap (λ k. taken_all f w (token_branches row after k)) first)
    (taken_then f x y z (extra_branches (unsigned_abs u)) (sign_branches u) (b ∙ ap (λ k. taken_all f x (extra_branches k)) long) (c ∙ ap (λ (k : ℤ). taken_all f y (sign_branches k)) same))

coefficient_here : (kind position context : ℕ) (after : Bool) (z : ℤ) (zs : List ℤ) → position < 16
    → coefficients_branches kind (16 - position) context after (z ∷ zs) ≡ one_branches (row_at kind position context) after z ++ coefficients_branches kind (16 - (position + 1)) (min 2 (unsigned_abs z)) (unsigned_abs z == 0) zs
unfolding coefficients_branches
coefficient_here kind position context after z zs lt =
    let n = 16 - (position + 1) in
    let more : 16 - position ≡ suc n = omega (arith, lt) in
    let here : 15 - n ≡ position = omega (arith, lt) in
    ap (λ m. coefficients_branches kind m context after (z ∷ zs)) more
    ∙ (ap (λ at. token_branches (row_at kind at context) after (token_of (unsigned_abs z)) ++ (extra_branches (unsigned_abs z) ++ (sign_branches z ++ coefficients_branches kind n (min 2 (unsigned_abs z)) (unsigned_abs z == 0) zs))) here
    ∙ three_and (token_branches (row_at kind position context) after (token_of (unsigned_abs z))) (extra_branches (unsigned_abs z)) (sign_branches z) (coefficients_branches kind n (min 2 (unsigned_abs z)) (unsigned_abs z == 0) zs))

-- a block, as far as a position: what is left of it
abbrev pub rest_of : ℕ → ℕ → ℕ → ℕ → Bool → List ℤ → List Branch
rest_of kind first position context after zs = coefficients_branches kind (16 - position) context after (drop (position - first) (trimmed (drop first zs)))

rest_here : (kind first position context : ℕ) (after : Bool) (zs : List ℤ) (z : ℤ) → first ≤ position → position < first + length (trimmed (drop first zs)) → position < 16 → z ≡ get_or zs position (pos 0)
    → rest_of kind first position context after zs ≡ one_branches (row_at kind position context) after z ++ rest_of kind first (position + 1) (min 2 (unsigned_abs z)) (unsigned_abs z == 0) zs
rest_here kind first position context after zs z low lt few is =
    let ls : List ℤ = trimmed (drop first zs) in
    let k = position - first in
    let there : k < length ls = omega (arith, low, lt) in
    let here : drop k ls ≡ get_or ls k (pos 0) ∷ drop (k + 1) ls = rw add-one (drop-cons ls k (pos 0) there) in
    let at : first + k ≡ position = omega (arith, low) in
    let same : get_or ls k (pos 0) ≡ z = trimmed_at (drop first zs) k there ∙ (get_or-drop first zs k (pos 0) ∙ (ap (λ i. get_or zs i (pos 0)) at ∙ sym is)) in
    let past : k + 1 ≡ position + 1 - first = omega (arith, low) in
    ap (λ (ys : List ℤ). coefficients_branches kind (16 - position) context after ys) (here ∙ (ap (λ (v : ℤ). v ∷ drop (k + 1) ls) same ∙ ap (λ i. z ∷ drop i ls) past))
    ∙ coefficient_here kind position context after z (drop (position + 1 - first) ls) few

pub block_start : {X : Type 0} (f : X → Branch → X) (x : X) (kind context first : ℕ) (zs : List ℤ) → first ≡ first_position kind → Left f x (rest_of kind first first context false zs) x (block_branches kind context zs)
unfolding block_branches
block_start f x kind context first zs e =
    let none : first - first ≡ 0 = omega arith in
    let same : rest_of kind first first context false zs ≡ coefficients_branches kind (16 - first_position kind) context false (trimmed (drop (first_position kind) zs)) =
    ap (λ n. coefficients_branches kind (16 - first) context false (drop n (trimmed (drop first zs)))) none ∙ ap (λ n. coefficients_branches kind (16 - n) context false (trimmed (drop n zs))) e in
    left_same f x x _ _ (block_branches kind context zs) (sym same) (left_start f x (block_branches kind context zs))

pub block_more : {X : Type 0} (f : X → Branch → X) (x y s : X) (kind first position context row c : ℕ) (after d : Bool) (zs : List ℤ) (z : ℤ) (ws : List Branch) → first ≤ position → position < first + length (trimmed (drop first zs)) → position < 16
    → z ≡ get_or zs position (pos 0) → row ≡ row_at kind position context → c ≡ min 2 (unsigned_abs z) → d ≡ (unsigned_abs z == 0) → y ≡ taken_all f x (one_branches row after z)
    → Left f x (rest_of kind first position context after zs) s ws → Left f y (rest_of kind first (position + 1) c d zs) s ws
block_more f x y s kind first position context row c after d zs z ws low lt few is at e g put h =
    let done : y ≡ taken_all f x (one_branches (row_at kind position context) after z) = put ∙ ap (λ r. taken_all f x (one_branches r after z)) at in
    let more = left_taken f x y s _ _ ws done (left_same f x s _ _ ws (rest_here kind first position context after zs z low lt few is) h) in
    left_same f y s _ _ ws (ap (λ b. rest_of kind first (position + 1) (min 2 (unsigned_abs z)) b zs) (sym g) ∙ ap (λ n. rest_of kind first (position + 1) n d zs) (sym e)) more

-- the end of the block, where positions are left
abbrev pub end_branches : ℕ → ℕ → ℕ → Bool → List Branch
end_branches kind position context after = if nat_lt position 16 then token_branches (row_at kind position context) after 0 else []

end_is : (kind position context : ℕ) (after : Bool) → position ≤ 16 → coefficients_branches kind (16 - position) context after [] ≡ end_branches kind position context after
unfolding coefficients_branches
end_is kind position context after le = elim (cases_lt position 16) [
  | inl lt ↦
      let n = 15 - position in
      let more : 16 - position ≡ suc n = omega (arith, lt) in
      let here : 15 - n ≡ position = omega (arith, lt) in
      rw (lt-ltb position 16 lt) (ap (λ m. coefficients_branches kind m context after []) more ∙ ap (λ at. token_branches (row_at kind at context) after 0) here)
  | inr ge ↦ let none : 16 - position ≡ 0 = omega (arith, ge) in rw (le-ltb position 16 ge) (ap (λ m. coefficients_branches kind m context after []) none)
]

pub block_all : {X : Type 0} (f : X → Branch → X) (x y s : X) (kind first position end context : ℕ) (after : Bool) (zs : List ℤ) (ws : List Branch) → end ≡ first + length (trimmed (drop first zs)) → end ≤ position → position ≤ end → end ≤ 16
    → y ≡ taken_all f x (end_branches kind end context after) → Left f x (rest_of kind first position context after zs) s ws → y ≡ taken_all f s ws
block_all f x y s kind first position end context after zs ws is ge le few put h =
    let same : position ≡ end = omega (arith, ge, le) in
    let none : drop (position - first) (trimmed (drop first zs)) ≡ [] = drop_all (position - first) (trimmed (drop first zs)) (omega (arith, is, ge)) in
    let rest : rest_of kind first position context after zs ≡ end_branches kind end context after =
    ap (λ (ys : List ℤ). coefficients_branches kind (16 - position) context after ys) none ∙ (ap (λ n. coefficients_branches kind (16 - n) context after []) same ∙ end_is kind end context after few) in
    put ∙ (left_same f x s _ _ ws rest h).all

pub starts_are : (first end : ℕ) (ls : List ℤ) → end ≡ first + length ls → nat_lt first end ≡ is_some_coefficient ls
starts_are first end [] e = le-ltb first end (omega (arith, e))
starts_are first end (z ∷ zs) e = lt-ltb first end (omega (arith, e))

-- a coefficient as it is passed is the coefficient
pub kept : (z : ℤ) → Within 2114 z → to_z w32 (of_z w32 z) ≡ z
kept z h = omega (arith, ints)
