-- The vectors of a macroblock in parts, step by step, by a decoder's numbers.
use Rattle.std.proofs.Common.{◌≡◌, ℕ, suc, zero, ◌+◌, ◌-◌, ◌≤◌, ◌<◌, ◌==◌, ◌∙◌, List, [], Bool, true, false, if◌then◌else◌, nat_lt, length, replicate, get_or, set, slice_index_or, refl, sym, ap, arith, subst, add-zero}
use Rattle.std.proofs.lemmas.List.{get_or-set_same, get_or-set_other, ext_get_or, length-set}
use Rattle.std.proofs.lemmas.Bool.{ne_eqb, eq-eqb, ltb-true, ltb-false}
use Rattle.sal_base.specs.Samples.{listed, listed_from}
use Rattle.sal_base.specs.declared.kinds.Vector.{Vector}
use Rattle.sal_bool.specs.Reading.{Reading}
use Rattle.sal_bool.specs.Syntax.{Done, run, leaf}
use Rattle.sal_bool.proofs.Meaning.{run_on, run_done}
use Rattle.sal_tables.specs.Tables.{split_probabilities_of, sub_vector_probabilities_of}
use Rattle.sal_tables.specs.Trees.{split_entries, sub_vector_entries}
use Rattle.sal_macroblock.specs.Macroblocks.{zero_vector, vector_at}
use Rattle.sal_modes.specs.Around.{Around, above_of, left_of}
use Rattle.sal_modes.specs.ReadVectors.{read_vector}
use Rattle.sal_modes.specs.Vectors.{plus}
use Rattle.sal_modes.specs.SplitVectors.{part_of, part_count, first_block, part_put, sub_context, sub_vector_of, sub_vector, parts, split_vectors}

-- block j, once its part has its vector
abbrev put_at : ℕ → ℕ → Vector → List Vector → ℕ → Vector
put_at partition part v old j = if part_of partition j == part then v else vector_at old j

-- the blocks below k are as they are to be, the others as they were
pub record IsPutUpTo (partition part : ℕ) (v : Vector) (old : List Vector) (k : ℕ) (vs : List Vector) : Type 0 where
  pub long : length vs ≡ 16
  pub front : (j : ℕ) → j < k → vector_at vs j ≡ put_at partition part v old j
  pub rest : (j : ℕ) → k ≤ j → vector_at vs j ≡ vector_at old j

pub put_none : (partition part : ℕ) (v : Vector) (old : List Vector) → length old ≡ 16 → IsPutUpTo partition part v old 0 old
put_none partition part v old long = record { long = long; front = λ j lt. absurd (omega arith); rest = λ j le. refl }

put_more : (partition part : ℕ) (v : Vector) (old : List Vector) (k : ℕ) (vs ws : List Vector) → length ws ≡ 16 → vector_at ws k ≡ put_at partition part v old k
    → ((j : ℕ) → (j ≡ k → ⊥) → vector_at ws j ≡ vector_at vs j) → IsPutUpTo partition part v old k vs → IsPutUpTo partition part v old (k + 1) ws
put_more partition part v old k vs ws long here others h = record {
  long = long;
  front = λ j lt. by_place j lt (nat_lt j k) refl;
  rest = λ j le. others j (λ e. omega arith) ∙ h.rest j (omega arith);
}
  where
    by_place : (j : ℕ) → j < k + 1 → (b : Bool) → nat_lt j k ≡ b → vector_at ws j ≡ put_at partition part v old j
    by_place j lt true e = let below : j < k = ltb-true j k e in others j (λ f. omega arith) ∙ h.front j below
    by_place j lt false e =
        let over : k ≤ j = ltb-false j k e in
        let same : k ≡ j = omega arith in
        let P : ℕ → Type 0 = λ i. vector_at ws i ≡ put_at partition part v old i in
        subst P same here

pub put_there : (partition part : ℕ) (v : Vector) (old : List Vector) (k : ℕ) (vs ws : List Vector) (p : ℕ) → k < 16 → p ≡ part_of partition k → p ≡ part → ws ≡ set vs k v
    → IsPutUpTo partition part v old k vs → IsPutUpTo partition part v old (k + 1) ws
put_there partition part v old k vs ws p lt e f is h =
    let P : List Vector → Type 0 = λ xs. IsPutUpTo partition part v old (k + 1) xs in
    let mine : (part_of partition k == part) ≡ true = eq-eqb _ _ (sym e ∙ f) in
    let long = h.long in
    subst P (sym is) (put_more partition part v old k vs (set vs k v) (length-set vs k v ∙ long)
    (get_or-set_same vs k v zero_vector (omega (arith, long)) ∙ sym (ap (λ b. if b then v else vector_at old k) mine))
    (λ j ne. get_or-set_other vs k j v zero_vector ne) h)

pub put_not : (partition part : ℕ) (v : Vector) (old : List Vector) (k : ℕ) (vs ws : List Vector) (p : ℕ) → p ≡ part_of partition k → (p ≡ part → ⊥) → ws ≡ vs
    → IsPutUpTo partition part v old k vs → IsPutUpTo partition part v old (k + 1) ws
put_not partition part v old k vs ws p e f is h =
    let P : List Vector → Type 0 = λ xs. IsPutUpTo partition part v old (k + 1) xs in
    let other : (part_of partition k == part) ≡ false = ne_eqb _ _ (λ g. f (e ∙ g)) in
    subst P (sym is) (put_more partition part v old k vs vs h.long (h.rest k (omega arith) ∙ sym (ap (λ b. if b then v else vector_at old k) other)) (λ j ne. refl) h)

get_listed : {A : Type 0} (f : ℕ → A) (k n i : ℕ) (d : A) → i < n → get_or (listed_from k n f) i d ≡ f (k + i)
unfolding listed_from
get_listed f k zero i d lt = absurd (omega arith)
get_listed f k (suc n) zero d lt = ap f (sym (add-zero k))
get_listed f k (suc n) (suc i) d lt = get_listed f (k + 1) n i d (omega arith) ∙ ap f (omega arith)

sixteen : {A : Type 0} (f : ℕ → A) → length (listed 16 f) ≡ 16
unfolding listed_from
sixteen f = refl

pub put_all : (partition part : ℕ) (v : Vector) (old : List Vector) (k : ℕ) (vs : List Vector) → 16 ≤ k → IsPutUpTo partition part v old k vs → vs ≡ part_put partition part v old
put_all partition part v old k vs le h =
    let long = h.long in
    ext_get_or zero_vector vs (part_put partition part v old) (long ∙ sym (sixteen (put_at partition part v old)))
    (λ i lt. h.front i (omega (arith, long)) ∙ sym (get_listed (put_at partition part v old) 0 16 i zero_vector (omega (arith, long)) ∙ ap (put_at partition part v old) (omega arith)))

-- LEFT, ABOVE, ZERO and NEW
pub vector_left : (ps : List ℕ) (best left above : Vector) (l : ℕ) (r : Reading) → l ≡ 0 → run (sub_vector_of ps best left above l) r ≡ (left, r)
vector_left ps best left above l r e = rw e (run_done left r)

pub vector_above : (ps : List ℕ) (best left above : Vector) (l : ℕ) (r : Reading) → l ≡ 1 → run (sub_vector_of ps best left above l) r ≡ (above, r)
vector_above ps best left above l r e = rw e (run_done above r)

pub vector_zero : (ps : List ℕ) (best left above : Vector) (l : ℕ) (r : Reading) → l ≡ 2 → run (sub_vector_of ps best left above l) r ≡ (zero_vector, r)
vector_zero ps best left above l r e = rw e (run_done zero_vector r)

pub vector_new : (ps : List ℕ) (best left above : Vector) (l : ℕ) (r : Reading) (v w : Vector) (r' : Reading) → (l ≡ 0 → ⊥) → (l ≡ 1 → ⊥) → (l ≡ 2 → ⊥) → run (read_vector ps) r ≡ (v, r') → w ≡ plus best v
    → run (sub_vector_of ps best left above l) r ≡ (w, r')
vector_new ps best left above l r v w r' e f g h is =
    rw (ne_eqb l 0 e) (rw (ne_eqb l 1 f) (rw (ne_eqb l 2 g)
    (run_on (read_vector ps) (λ x. Done (plus best x)) r v r' h ∙ (run_done (plus best v) r' ∙ ap (λ (x : Vector). let y : Vector × Reading = (x, r') in y) (sym is)))))

pub sub_vector_read : (ps : List ℕ) (best left above : Vector) (r : Reading) (l : ℕ) (r' : Reading) (end : Vector × Reading)
    → run (leaf sub_vector_entries (slice_index_or sub_vector_probabilities_of (sub_context left above) [])) r ≡ (l, r') → run (sub_vector_of ps best left above l) r' ≡ end → run (sub_vector ps best left above) r ≡ end
unfolding sub_vector
sub_vector_read ps best left above r l r' end h k = run_on (leaf sub_vector_entries (slice_index_or sub_vector_probabilities_of (sub_context left above) [])) (λ x. sub_vector_of ps best left above x) r l r' h ∙ k

one_more : (ps : List ℕ) (a : Around) (best : Vector) (partition part n m : ℕ) (vs : List Vector) (v : Vector) (r r' : Reading) → n ≡ suc m
    → run (sub_vector ps best (left_of zero_vector a.left.vectors vs (first_block partition part)) (above_of zero_vector a.above.vectors vs (first_block partition part))) r ≡ (v, r')
    → run (parts ps a best partition part n vs) r ≡ run (parts ps a best partition (part + 1) m (part_put partition part v vs)) r'
unfolding parts
one_more ps a best partition part n m vs v r r' e h =
    rw e (run_on (sub_vector ps best (left_of zero_vector a.left.vectors vs (first_block partition part)) (above_of zero_vector a.above.vectors vs (first_block partition part)))
    (λ x. parts ps a best partition (part + 1) m (part_put partition part x vs)) r v r' h)

-- one more part
pub parts_more : (ps : List ℕ) (a : Around) (best : Vector) (partition count part k : ℕ) (vs ws : List Vector) (left above v : Vector) (r r' : Reading) (end : List Vector × Reading)
    → part < count → k ≡ first_block partition part → left ≡ left_of zero_vector a.left.vectors vs k → above ≡ above_of zero_vector a.above.vectors vs k
    → run (sub_vector ps best left above) r ≡ (v, r') → ws ≡ part_put partition part v vs
    → run (parts ps a best partition part (count - part) vs) r ≡ end → run (parts ps a best partition (part + 1) (count - (part + 1)) ws) r' ≡ end
parts_more ps a best partition count part k vs ws left above v r r' end lt ek el ea h is before =
    let el' = el ∙ ap (λ i. left_of zero_vector a.left.vectors vs i) ek in
    let ea' = ea ∙ ap (λ i. above_of zero_vector a.above.vectors vs i) ek in
    let P : Vector → Type 0 = λ x. run (sub_vector ps best x above) r ≡ (let y : Vector × Reading = (v, r') in y) in
    let Q : Vector → Type 0 = λ x. run (sub_vector ps best (left_of zero_vector a.left.vectors vs (first_block partition part)) x) r ≡ (let y : Vector × Reading = (v, r') in y) in
    let read = subst Q ea' (subst P el' h) in
    ap (λ (xs : List Vector). run (parts ps a best partition (part + 1) (count - (part + 1)) xs) r') is
    ∙ (sym (one_more ps a best partition part (count - part) (count - (part + 1)) vs v r r' (omega arith) read) ∙ before)

ended : (ps : List ℕ) (a : Around) (best : Vector) (partition part n : ℕ) (vs : List Vector) (r : Reading) → n ≡ 0 → run (parts ps a best partition part n vs) r ≡ (vs, r)
unfolding parts
ended ps a best partition part n vs r e = rw e (run_done vs r)

-- all parts
pub parts_all : (ps : List ℕ) (a : Around) (best : Vector) (partition part : ℕ) (vs : List Vector) (r0 r1 r : Reading) → part_count partition ≤ part
    → run (leaf split_entries split_probabilities_of) r0 ≡ (partition, r1)
    → run (parts ps a best partition part (part_count partition - part) vs) r ≡ run (parts ps a best partition 0 (part_count partition) (replicate 16 zero_vector)) r1 → run (split_vectors ps a best) r0 ≡ (vs, r)
unfolding split_vectors
parts_all ps a best partition part vs r0 r1 r le h all =
    run_on (leaf split_entries split_probabilities_of) (λ p. parts ps a best p 0 (part_count p) (replicate 16 zero_vector)) r0 partition r1 h
    ∙ (sym all ∙ ended ps a best partition part (part_count partition - part) vs r (omega arith))

pub parts_none : (ps : List ℕ) (a : Around) (best : Vector) (partition count : ℕ) (vs : List Vector) (r : Reading)
    → run (parts ps a best partition 0 (count - 0) vs) r ≡ run (parts ps a best partition 0 count vs) r
parts_none ps a best partition count vs r = let e : count - 0 ≡ count = omega arith in ap (λ n. run (parts ps a best partition 0 n vs) r) e

pub row_along : (xs ys : List (List ℕ)) (i j : ℕ) → xs ≡ ys → i ≡ j → get_or xs i [] ≡ get_or ys j []
row_along xs ys i j e f = ap (λ (zs : List (List ℕ)). get_or zs i []) e ∙ ap (λ k. get_or ys k []) f
