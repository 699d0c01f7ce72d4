-- What is written of a block, and of the blocks of a macroblock, is read as that.
use Rattle.std.proofs.Common.{◌≡◌, ◌⊎◌, ℕ, suc, zero, ◌+◌, ◌-◌, ◌≤◌, ◌<◌, ◌∙◌, ℤ, pos, negsuc, List, [], ◌∷◌, ◌++◌, Bool, true, false, not, if◌then◌else◌, ◌==◌, length, replicate, drop, min, refl, sym, ap, arith, subst, slice_index_or, unsigned_abs, inl, inr}
use Rattle.std.proofs.lemmas.Int.{ints}
use Rattle.std.proofs.lemmas.Bool.{ne_eqb, eqb-true}
use Rattle.std.proofs.lemmas.List.{map-append, append-nil}
use Rattle.sal_macroblock.specs.Sizes.{Within}
use Rattle.sal_bool.specs.Syntax.{Done, ◌>>=◌, Follows, flag, signed, when, leaf_from}
use Rattle.sal_bool.specs.Pairs.{Pairs, is_negative}
use Rattle.sal_bool.proofs.Meaning.{follows_then}
use Rattle.sal_bool.proofs.Writing.{follows_done, follows_made}
use Rattle.sal_tables.specs.Trees.{token_entries}
use Rattle.sal_tokens.specs.Coefficients.{token_row, token_size, start_of, coefficients, block, first_position, filled_block, is_some_coefficient}
use Rattle.sal_tokens.specs.Blocks.{Tokens, context, with_block, blocks}
use Rattle.sal_tokens.specs.Written.{Branch, pair_of, pairs_of, token_of, row_at, token_branches, extra_branches, sign_branches, coefficients_branches, onto, trimmed, written_of, is_some_block, block_branches, block_pairs, block_at, blocks_branches, after_blocks}
use Rattle.sal_tokens.specs.declared.places.Place.{Place}
use Rattle.sal_tokens.proofs.WrittenBits.{IsToken, is_token, token_again, size_again, sign_again, signed_again}

-- a size that a token can be
pub abs_small : (z : ℤ) → Within 2114 z → unsigned_abs z ≤ 2114
abs_small (pos n) h = omega (arith, ints)
abs_small (negsuc n) h = omega (arith, ints)

abbrev pub AreSmall : List ℤ → Type 0
AreSmall [] = Unit {0}
AreSmall (z ∷ zs) = (unsigned_abs z ≤ 2114) × AreSmall zs

-- no zero stands before the end
abbrev pub EndsWell : Bool → List ℤ → Type 0
EndsWell after [] = after ≡ false
EndsWell after (z ∷ zs) = EndsWell (unsigned_abs z == 0) zs

not_end : (t : ℕ) → 0 < t → (t == 0) ≡ false
not_end t lt = ne_eqb t 0 (λ e. omega (arith, lt, e))

split_pairs : (ps : List ℕ) (xs ys : List Branch) → pairs_of ps (xs ++ ys) ≡ pairs_of ps xs ++ pairs_of ps ys
split_pairs ps xs ys = map-append (pair_of ps) xs ys

parts_of : (ps : List ℕ) (us vs ws xs : List Branch) → pairs_of ps (us ++ (vs ++ (ws ++ xs))) ≡ pairs_of ps us ++ (pairs_of ps vs ++ (pairs_of ps ws ++ pairs_of ps xs))
parts_of ps us vs ws xs =
    split_pairs ps us (vs ++ (ws ++ xs))
    ∙ (ap (λ (qs : Pairs). pairs_of ps us ++ qs) (split_pairs ps vs (ws ++ xs))
    ∙ ap (λ (qs : Pairs). pairs_of ps us ++ (pairs_of ps vs ++ qs)) (split_pairs ps ws xs))

-- what is written of coefficients leads to them
pub coefficients_again : (ps : List ℕ) (kind n context : ℕ) (after : Bool) (zs : List ℤ) → length zs ≤ n → EndsWell after zs → AreSmall zs
    → Follows (coefficients ps kind n context after) (pairs_of ps (coefficients_branches kind n context after zs)) zs
unfolding coefficients coefficients_branches
coefficients_again ps kind zero context after [] le ends small = follows_done []
coefficients_again ps kind zero context after (z ∷ zs) le ends small = absurd (omega (arith, le))
coefficients_again ps kind (suc n) context after [] le ends small =
    let never : after ≡ true → 0 < 0 = λ e. cc in
    let token : Follows (leaf_from token_entries (token_row ps kind (15 - n) context) (start_of after)) (pairs_of ps (token_branches (row_at kind (15 - n) context) after 0)) 0 = token_again ps kind (15 - n) context 0 after (omega arith) never in
    let P : Pairs → Type 0 = λ qs. Follows (coefficients ps kind (suc n) context after) qs [] in
    subst P (append-nil (pairs_of ps (token_branches (row_at kind (15 - n) context) after 0)))
    (follows_then (leaf_from token_entries (token_row ps kind (15 - n) context) (start_of after)) _ (pairs_of ps (token_branches (row_at kind (15 - n) context) after 0)) [] 0 [] token (follows_done []))
coefficients_again ps kind (suc n) context after (z ∷ zs) le ends small =
    let size : ℕ = unsigned_abs z in
    let t : ℕ = token_of size in
    let is : IsToken t = is_token size small.0 in
    let later : Follows (coefficients ps kind n (min 2 size) (size == 0)) (pairs_of ps (coefficients_branches kind n (min 2 size) (size == 0) zs)) zs = coefficients_again ps kind n (min 2 size) (size == 0) zs (omega (arith, le)) ends small.1 in
    let last : Follows (coefficients ps kind n (min 2 size) (size == 0) >>= λ rest. Done (signed size (is_negative z) ∷ rest)) (pairs_of ps (coefficients_branches kind n (min 2 size) (size == 0) zs)) (z ∷ zs) =
    (let P : ℤ → Type 0 = λ v. Follows (coefficients ps kind n (min 2 size) (size == 0) >>= λ rest. Done (signed size (is_negative z) ∷ rest)) (pairs_of ps (coefficients_branches kind n (min 2 size) (size == 0) zs)) (v ∷ zs) in
    subst P (signed_again z) (follows_made (coefficients ps kind n (min 2 size) (size == 0)) (λ rest. signed size (is_negative z) ∷ rest) _ zs later)) in
    let Q : Pairs → Type 0 = λ qs. Follows (coefficients ps kind (suc n) context after) qs (z ∷ zs) in
    subst Q (sym (parts_of ps (token_branches (row_at kind (15 - n) context) after t) (extra_branches size) (sign_branches z) (coefficients_branches kind n (min 2 size) (size == 0) zs)))
    (follows_then (leaf_from token_entries (token_row ps kind (15 - n) context) (start_of after)) _ _ _ t (z ∷ zs) (token_again ps kind (15 - n) context t after is.few (λ e. is.some))
    (rw (not_end t is.some)
    (follows_then (token_size t) _ _ _ size (z ∷ zs) (size_again ps size small.0)
    (follows_then (when (not (size == 0)) flag false) _ _ _ (is_negative z) (z ∷ zs) (sign_again ps z) last))))

is_zero : (z : ℤ) → (unsigned_abs z == 0) ≡ true → z ≡ pos 0
is_zero (pos zero) h = refl
is_zero (pos (suc n)) h = let e : suc n ≡ 0 = eqb-true _ _ h in absurd (omega (arith, e))
is_zero (negsuc n) h = let e : suc n ≡ 0 = eqb-true _ _ h in absurd (omega (arith, e))

-- coefficients up to the last that isn't 0, and zeros
pub trimmed_filled : (zs : List ℤ) → trimmed zs ++ replicate (length zs - length (trimmed zs)) (pos 0) ≡ zs
trimmed_filled [] = refl
trimmed_filled (z ∷ zs) = by_rest (trimmed zs) (unsigned_abs z == 0) refl (trimmed_filled zs)
  where
    by_rest : (ys : List ℤ) (b : Bool) → (unsigned_abs z == 0) ≡ b → ys ++ replicate (length zs - length ys) (pos 0) ≡ zs → onto z ys ++ replicate (length (z ∷ zs) - length (onto z ys)) (pos 0) ≡ z ∷ zs
    by_rest [] true e h =
        let n : length (z ∷ zs) - 0 ≡ suc (length zs - 0) = omega arith in
        rw e (ap (λ k. replicate k (pos 0)) n ∙ (ap (λ (ys : List ℤ). pos 0 ∷ ys) h ∙ ap (λ (v : ℤ). v ∷ zs) (sym (is_zero z e))))
    by_rest [] false e h = let n : length (z ∷ zs) - 1 ≡ length zs - 0 = omega arith in rw e (ap (λ k. z ∷ replicate k (pos 0)) n ∙ ap (λ (ys : List ℤ). z ∷ ys) h)
    by_rest (y ∷ ys) b e h = let n : length (z ∷ zs) - length (z ∷ y ∷ ys) ≡ length zs - length (y ∷ ys) = omega arith in ap (λ k. z ∷ (y ∷ ys) ++ replicate k (pos 0)) n ∙ ap (λ (us : List ℤ). z ∷ us) h

pub trimmed_ends : (zs : List ℤ) → EndsWell false (trimmed zs)
trimmed_ends [] = refl
trimmed_ends (z ∷ zs) = by_rest (trimmed zs) (unsigned_abs z == 0) refl (trimmed_ends zs)
  where
    ends_any : (y : ℤ) (ys : List ℤ) (b d : Bool) → EndsWell b (y ∷ ys) → EndsWell d (y ∷ ys)
    ends_any y ys b d h = h

    by_rest : (ys : List ℤ) (b : Bool) → (unsigned_abs z == 0) ≡ b → EndsWell false ys → EndsWell false (onto z ys)
    by_rest [] true e h = rw e refl
    by_rest [] false e h = rw e e
    by_rest (y ∷ ys) b e h = h

pub trimmed_short : (zs : List ℤ) → length (trimmed zs) ≤ length zs
trimmed_short [] = omega arith
trimmed_short (z ∷ zs) = by_rest (trimmed zs) (unsigned_abs z == 0) refl (trimmed_short zs)
  where
    by_rest : (ys : List ℤ) (b : Bool) → (unsigned_abs z == 0) ≡ b → length ys ≤ length zs → length (onto z ys) ≤ length (z ∷ zs)
    by_rest [] true e h = rw e (omega arith)
    by_rest [] false e h = rw e (omega arith)
    by_rest (y ∷ ys) b e h = omega (arith, h)

pub trimmed_small : (zs : List ℤ) → AreSmall zs → AreSmall (trimmed zs)
trimmed_small [] h = tt
trimmed_small (z ∷ zs) h = by_rest (trimmed zs) (unsigned_abs z == 0) refl (trimmed_small zs h.1)
  where
    by_rest : (ys : List ℤ) (b : Bool) → (unsigned_abs z == 0) ≡ b → AreSmall ys → AreSmall (onto z ys)
    by_rest [] true e a = rw e tt
    by_rest [] false e a = rw e (h.0, tt)
    by_rest (y ∷ ys) b e a = (h.0, a)

drop_small : (n : ℕ) (zs : List ℤ) → AreSmall zs → AreSmall (drop n zs)
drop_small zero zs h = h
drop_small (suc n) [] h = h
drop_small (suc n) (z ∷ zs) h = drop_small n zs h.1

-- a block that can be written: of luma after Y2 the first coefficient is 0
pub record IsBlock (kind : ℕ) (zs : List ℤ) : Type 0 where
  pub long : length zs ≡ 16
  pub small : AreSmall zs
  pub no_first : kind ≡ 0 → slice_index_or zs 0 (pos 0) ≡ pos 0

abbrev first_where : Bool → ℕ
first_where b = if b then 1 else 0

first_cases : (kind : ℕ) → ((kind ≡ 0) × (first_position kind ≡ 1)) ⊎ (first_position kind ≡ 0)
first_cases kind = by_first (kind == 0) refl
  where
    by_first : (b : Bool) → (kind == 0) ≡ b → ((kind ≡ 0) × (first_where b ≡ 1)) ⊎ (first_where b ≡ 0)
    by_first true e = inl (eqb-true _ _ e, refl)
    by_first false e = inr refl

filled_whole : (zs : List ℤ) → length zs ≡ 16 → filled_block 0 (trimmed (drop 0 zs)) ≡ zs
filled_whole zs e = let n : 16 - (0 + length (trimmed zs)) ≡ length zs - length (trimmed zs) = omega (arith, e) in ap (λ k. trimmed zs ++ replicate k (pos 0)) n ∙ trimmed_filled zs

filled_after : (zs : List ℤ) → length zs ≡ 16 → slice_index_or zs 0 (pos 0) ≡ pos 0 → filled_block 1 (trimmed (drop 1 zs)) ≡ zs
filled_after [] e f = absurd (omega (arith, e))
filled_after (z ∷ zs) e f =
    let n : 16 - (1 + length (trimmed zs)) ≡ length zs - length (trimmed zs) = omega (arith, e) in
    ap (λ k. pos 0 ∷ (trimmed zs ++ replicate k (pos 0))) n ∙ (ap (λ (ys : List ℤ). pos 0 ∷ ys) (trimmed_filled zs) ∙ ap (λ (v : ℤ). v ∷ zs) (sym f))

block_filled : (kind : ℕ) (zs : List ℤ) → IsBlock kind zs → filled_block (first_position kind) (written_of kind zs) ≡ zs
block_filled kind zs h = elim (first_cases kind) [
  | inl p ↦ rw p.1 (filled_after zs h.long (h.no_first p.0))
  | inr e ↦ rw e (filled_whole zs h.long)
]

length_dropped : (n : ℕ) (zs : List ℤ) → length (drop n zs) ≡ length zs - n
length_dropped zero zs = omega arith
length_dropped (suc n) [] = omega arith
length_dropped (suc n) (z ∷ zs) = let e = length_dropped n zs in omega (arith, e)

pub written_short : (kind : ℕ) (zs : List ℤ) → length zs ≡ 16 → length (written_of kind zs) ≤ 16 - first_position kind
written_short kind zs e = let a = trimmed_short (drop (first_position kind) zs) in let b = length_dropped (first_position kind) zs in omega (arith, a, b, e)

-- what is written of a block leads to it
pub block_again : (ps : List ℕ) (kind context : ℕ) (zs : List ℤ) → IsBlock kind zs → Follows (block ps kind context) (block_pairs ps kind context zs) (zs, is_some_block kind zs)
unfolding block block_branches
block_again ps kind context zs h =
    let first : ℕ = first_position kind in
    let ls : List ℤ = written_of kind zs in
    let read : Follows (coefficients ps kind (16 - first) context false) (block_pairs ps kind context zs) ls =
    coefficients_again ps kind (16 - first) context false ls (written_short kind zs h.long) (trimmed_ends (drop first zs)) (trimmed_small (drop first zs) (drop_small first zs h.small)) in
    let P : List ℤ → Type 0 = λ ys. Follows (block ps kind context) (block_pairs ps kind context zs) (ys, is_some_block kind zs) in
    subst P (block_filled kind zs h) (follows_made (coefficients ps kind (16 - first) context false) (λ us. (filled_block first us, is_some_coefficient us)) _ ls read)

-- each of these blocks can be written
abbrev pub AreBlocks : List (List ℤ) → List Place → Type 0
AreBlocks ls [] = Unit {0}
AreBlocks ls (p ∷ ps) = IsBlock p.kind (slice_index_or ls p.index []) × AreBlocks ls ps

pub blocks_again : (probs : List ℕ) (ls : List (List ℤ)) (ps : List Place) (t : Tokens) → AreBlocks ls ps → Follows (blocks probs ps t) (pairs_of probs (blocks_branches ls ps t)) (after_blocks ls ps t)
unfolding blocks blocks_branches after_blocks
blocks_again probs ls [] t h = follows_done t
blocks_again probs ls (p ∷ ps) t h =
    let zs : List ℤ = slice_index_or ls p.index [] in
    let Q : Pairs → Type 0 = λ qs. Follows (blocks probs (p ∷ ps) t) qs (after_blocks ls ps (with_block t p (block_at ls p))) in
    subst Q (sym (split_pairs probs (block_branches p.kind (context t p) zs) (blocks_branches ls ps (with_block t p (block_at ls p)))))
    (follows_then (block probs p.kind (context t p)) _ _ _ (block_at ls p) _ (block_again probs p.kind (context t p) zs h.0) (blocks_again probs ls ps (with_block t p (block_at ls p)) h.1))
