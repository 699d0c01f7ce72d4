-- What is written of a macroblock is read as that.
use Rattle.std.proofs.Common.{◌≡◌, ◌⊎◌, ℕ, suc, zero, ◌<◌, ◌∙◌, ◌≢◌, ℤ, pos, List, [], ◌∷◌, Bool, true, false, ◌&&◌, ◌||◌, if◌then◌else◌, ◌==◌, length, replicate, get_or, refl, sym, ap, arith, subst, slice_index_or, slice_set, inl, inr, nat_lt, All}
use Rattle.std.proofs.lemmas.Bool.{eqb-true, eq-eqb, ltb-true, cases_lt}
use Rattle.std.proofs.lemmas.List.{get_or-set_same, get_or-set_other, length-set, ext_get_or}
use Rattle.sal_base.specs.Samples.{listed_from}
use Rattle.sal_macroblock.specs.Sizes.{Within}
use Rattle.sal_macroblock.specs.Blocks.{no_coefficients}
use Rattle.sal_bool.specs.Syntax.{Follows}
use Rattle.sal_tokens.specs.Blocks.{Tokens, tokens, places, with_block, macroblock}
use Rattle.sal_tokens.specs.Written.{block_at, after_blocks, macroblock_branches, after_macroblock, macroblock_pairs, AreWritable, AreSized}
use Rattle.sal_tokens.specs.declared.places.Place.{Place}
use Rattle.sal_tokens.proofs.WrittenBlocks.{AreSmall, AreBlocks, abs_small, blocks_again}

both : (a b : Bool) → (a && b) ≡ true → (a ≡ true) × (b ≡ true)
both true true h = (refl, refl)
both true false h = cc
both false b h = cc

pub all_small : (zs : List ℤ) → All (Within 2114) zs → AreSmall zs
all_small [] h = tt
all_small (z ∷ zs) h = (abs_small z (h 0 (pos 0) (omega arith)), all_small zs (λ k d lt. h (suc k) d (omega (arith, lt))))

-- luma after Y2 is there only with Y2
abbrev are_luma : Bool → List Place → Bool
are_luma has_y2 [] = true
are_luma has_y2 (p ∷ ps) = (if p.kind == 0 then has_y2 && nat_lt p.index 16 else true) && are_luma has_y2 ps

no_first : (has_y2 : Bool) (ls : List (List ℤ)) (p : Place) → AreWritable has_y2 ls → (if p.kind == 0 then has_y2 && nat_lt p.index 16 else true) ≡ true → p.kind ≡ 0 → slice_index_or (slice_index_or ls p.index []) 0 (pos 0) ≡ pos 0
no_first has_y2 ls p w h e =
    let P : ℕ → Type 0 = λ k. (if k == 0 then has_y2 && nat_lt p.index 16 else true) ≡ true in
    let here = both has_y2 (nat_lt p.index 16) (subst P e h) in
    w.no_first here.0 p.index (ltb-true _ _ here.1)

are_blocks : (has_y2 : Bool) (ls : List (List ℤ)) (ps : List Place) → AreWritable has_y2 ls → are_luma has_y2 ps ≡ true → AreSized ls ps → AreBlocks ls ps
are_blocks has_y2 ls [] w h sized = tt
are_blocks has_y2 ls (p ∷ ps) w h sized =
    let here = both _ _ h in
    (record { long = sized.0.long; small = all_small _ sized.0.small; no_first = no_first has_y2 ls p w here.0 }, are_blocks has_y2 ls ps w here.1 sized.1)

luma : (has_y2 : Bool) → are_luma has_y2 (places has_y2) ≡ true
unfolding places listed_from
luma true = refl
luma false = refl

-- the coefficients that blocks leave
abbrev set_all : List (List ℤ) → List Place → List (List ℤ) → List (List ℤ)
set_all ls [] zs = zs
set_all ls (p ∷ ps) zs = set_all ls ps (slice_set zs p.index (slice_index_or ls p.index []))

after_set : (ls : List (List ℤ)) (ps : List Place) (t : Tokens) → (after_blocks ls ps t).coefficients ≡ set_all ls ps t.coefficients
unfolding after_blocks
after_set ls [] t = refl
after_set ls (p ∷ ps) t = after_set ls ps (with_block t p (block_at ls p))

set_long : (ls : List (List ℤ)) (ps : List Place) (zs : List (List ℤ)) → length (set_all ls ps zs) ≡ length zs
set_long ls [] zs = refl
set_long ls (p ∷ ps) zs = set_long ls ps (slice_set zs p.index (slice_index_or ls p.index [])) ∙ length-set zs p.index (slice_index_or ls p.index [])

abbrev covers : List Place → ℕ → Bool
covers [] j = false
covers (p ∷ ps) j = (p.index == j) || covers ps j

-- a place set, or another
set_hit : (ls : List (List ℤ)) (ps : List Place) (p : Place) (zs : List (List ℤ)) (j : ℕ) → j < length zs → (b : Bool) → (p.index == j) ≡ b
    → (((p.index == j) || covers ps j) ≡ true) ⊎ (get_or zs j [] ≡ get_or ls j [])
    → ((covers ps j ≡ true) ⊎ (get_or (slice_set zs p.index (slice_index_or ls p.index [])) j [] ≡ get_or ls j []) → get_or (set_all ls ps (slice_set zs p.index (slice_index_or ls p.index []))) j [] ≡ get_or ls j [])
    → get_or (set_all ls ps (slice_set zs p.index (slice_index_or ls p.index []))) j [] ≡ get_or ls j []
set_hit ls ps p zs j lt true e h more =
    let same : p.index ≡ j = eqb-true _ _ e in
    let here : p.index < length zs = omega (arith, same, lt) in
    let us : List (List ℤ) = slice_set zs p.index (slice_index_or ls p.index []) in
    let put : get_or us j [] ≡ get_or ls j [] = ap (λ k. get_or us k []) (sym same) ∙ (get_or-set_same zs p.index (slice_index_or ls p.index []) [] here ∙ ap (λ k. get_or ls k []) same) in
    more (inr put)
set_hit ls ps p zs j lt false e (inl c) more = more (inl (let P : Bool → Type 0 = λ b. (b || covers ps j) ≡ true in subst P e c))
set_hit ls ps p zs j lt false e (inr g) more =
    let other : j ≢ p.index = λ f. (let t : (p.index == j) ≡ true = eq-eqb p.index j (sym f) in cc) in
    more (inr (get_or-set_other zs p.index j (slice_index_or ls p.index []) [] other ∙ g))

set_here : (ls : List (List ℤ)) (ps : List Place) (zs : List (List ℤ)) (j : ℕ) → j < length zs → (covers ps j ≡ true) ⊎ (get_or zs j [] ≡ get_or ls j []) → get_or (set_all ls ps zs) j [] ≡ get_or ls j []
set_here ls [] zs j lt (inl h) = cc
set_here ls [] zs j lt (inr h) = h
set_here ls (p ∷ ps) zs j lt h =
    let us : List (List ℤ) = slice_set zs p.index (slice_index_or ls p.index []) in
    let e = length-set zs p.index (slice_index_or ls p.index []) in
    let long : j < length us = omega (arith, e, lt) in
    set_hit ls ps p zs j lt (p.index == j) refl h (λ c. set_here ls ps us j long c)

-- all places below n
abbrev covers_all : List Place → ℕ → Bool
covers_all ps zero = true
covers_all ps (suc n) = covers ps n && covers_all ps n

covered : (ps : List Place) (n j : ℕ) → covers_all ps n ≡ true → j < n → covers ps j ≡ true
covered ps zero j h lt = absurd (omega (arith, lt))
covered ps (suc n) j h lt = elim (cases_lt j n) [
  | inl less ↦ covered ps n j (both _ _ h).1 less
  | inr le ↦ let e : n ≡ j = omega (arith, lt, le) in let P : ℕ → Type 0 = λ k. covers ps k ≡ true in subst P e (both _ _ h).0
]

with_all : covers_all (places true) 25 ≡ true
unfolding places listed_from
with_all = refl

without_all : covers_all (places false) 24 ≡ true
unfolding places listed_from
without_all = refl

there : (has_y2 : Bool) (ls : List (List ℤ)) → AreWritable has_y2 ls → (j : ℕ) → j < 25 → (covers (places has_y2) j ≡ true) ⊎ (get_or no_coefficients j [] ≡ get_or ls j [])
there true ls w j lt = inl (covered (places true) 25 j with_all lt)
there false ls w j lt = elim (cases_lt j 24) [
  | inl less ↦ inl (covered (places false) 24 j without_all less)
  | inr le ↦ (
      let e : 24 ≡ j = omega (arith, lt, le) in
      let zeros : List ℤ = replicate 16 (pos 0) in
      let here : get_or no_coefficients 24 [] ≡ zeros = refl in
      let P : ℕ → Type 0 = λ k. get_or no_coefficients k [] ≡ get_or ls k [] in
      inr (subst P e (here ∙ sym (w.no_y2 refl))))
]

-- the blocks leave exactly these coefficients
pub all_there : (has_y2 : Bool) (above left : List Bool) (ls : List (List ℤ)) → AreWritable has_y2 ls → (after_macroblock has_y2 above left ls).coefficients ≡ ls
unfolding after_macroblock
all_there has_y2 above left ls w =
    let t : Tokens = tokens no_coefficients false above left in
    let long : length (set_all ls (places has_y2) no_coefficients) ≡ 25 = set_long ls (places has_y2) no_coefficients in
    let same : length (set_all ls (places has_y2) no_coefficients) ≡ length ls = long ∙ sym w.long in
    after_set ls (places has_y2) t
    ∙ ext_get_or [] (set_all ls (places has_y2) no_coefficients) ls same (λ j lt.
    (let below : j < 25 = omega (arith, long, lt) in set_here ls (places has_y2) no_coefficients j below (there has_y2 ls w j below)))

pub macroblock_again : (probs : List ℕ) (has_y2 : Bool) (above left : List Bool) (ls : List (List ℤ)) → AreWritable has_y2 ls → AreSized ls (places has_y2)
    → Follows (macroblock probs has_y2 above left) (macroblock_pairs probs has_y2 above left ls) (after_macroblock has_y2 above left ls)
unfolding macroblock macroblock_branches after_macroblock
macroblock_again probs has_y2 above left ls w sized =
    blocks_again probs ls (places has_y2) (tokens no_coefficients false above left) (are_blocks has_y2 ls (places has_y2) w (luma has_y2) sized)
