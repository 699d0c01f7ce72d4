-- A macroblock in which no block's first token is another than the end has no coefficients.
use Rattle.std.proofs.Common.{◌≡◌, ℕ, suc, zero, ◌<◌, ◌∙◌, ℤ, pos, negsuc, List, [], ◌∷◌, Bool, true, false, not, ◌&&◌, ◌||◌, ◌==◌, if◌then◌else◌, nat_lt, length, replicate, drop, refl, sym, ap, arith, subst, slice_index_or, slice_set, unsigned_abs}
use Rattle.std.proofs.lemmas.Bool.{ltb-true, eqb-true}
use Rattle.sal_base.specs.Samples.{listed_from}
use Rattle.sal_macroblock.specs.declared.mode.MbMode.{MbMode}
use Rattle.sal_macroblock.specs.Macroblocks.{has_y2}
use Rattle.sal_macroblock.specs.Blocks.{no_coefficients}
use Rattle.sal_tokens.specs.declared.places.Place.{Place}
use Rattle.sal_tokens.specs.Coefficients.{is_some_coefficient}
use Rattle.sal_tokens.specs.Blocks.{Tokens, tokens, places, with_block, are_places}
use Rattle.sal_tokens.specs.Written.{onto, trimmed, is_some_block, block_at, after_blocks, after_macroblock, AreWritable, IsSized}
use Rattle.sal_tokens.proofs.WrittenMacroblocks.{all_there}
use Rattle.sal_frame.specs.Records.{macroblock}
use Rattle.sal_encode.specs.Plans.{some_block, planned, AreLevels}
use Rattle.sal_encode.proofs.TokensAgain.{all_places}

abbrev zeros : List ℤ
zeros = replicate 16 (pos 0)

both : (a b : Bool) → (a && b) ≡ true → (a ≡ true) × (b ≡ true)
both true b e = (refl, e)
both false b e = cc

neither : (a b : Bool) → (a || b) ≡ false → (a ≡ false) × (b ≡ false)
neither true b e = cc
neither false b e = (refl, e)

no_size : (z : ℤ) → unsigned_abs z ≡ 0 → z ≡ pos 0
no_size (pos n) e = ap pos e
no_size (negsuc n) e = absurd (omega (arith, e))

-- nothing is left where all are 0
zero_onto : (z : ℤ) (zs ys : List ℤ) → trimmed zs ≡ ys → is_some_coefficient (onto z ys) ≡ false → (z ≡ pos 0) × (is_some_coefficient (trimmed zs) ≡ false)
zero_onto z zs [] e h = by_size (unsigned_abs z == 0) refl h
  where
    by_size : (b : Bool) → (unsigned_abs z == 0) ≡ b → is_some_coefficient (if b then [] else z ∷ []) ≡ false → (z ≡ pos 0) × (is_some_coefficient (trimmed zs) ≡ false)
    by_size true t g = (no_size z (eqb-true _ _ t), ap is_some_coefficient e)
    by_size false t g = cc
zero_onto z zs (y ∷ ys) e h = cc

all_zero : (zs : List ℤ) → is_some_coefficient (trimmed zs) ≡ false → zs ≡ replicate (length zs) (pos 0)
all_zero [] h = refl
all_zero (z ∷ zs) h =
    let here = zero_onto z zs (trimmed zs) refl h in
    ap (λ (x : ℤ). x ∷ zs) here.0 ∙ ap (λ (xs : List ℤ). pos 0 ∷ xs) (all_zero zs here.1)

zero_long : (zs : List ℤ) (n : ℕ) → length zs ≡ n → zs ≡ replicate (length zs) (pos 0) → zs ≡ replicate n (pos 0)
zero_long zs n long e = e ∙ ap (λ k. replicate k (pos 0)) long

-- a block
no_block : (kind : ℕ) (zs : List ℤ) → IsSized zs → (kind ≡ 0 → slice_index_or zs 0 (pos 0) ≡ pos 0) → is_some_block kind zs ≡ false → zs ≡ zeros
no_block kind zs sized first h = by_kind (kind == 0) refl h
  where
    after_first : (xs : List ℤ) → length xs ≡ 16 → slice_index_or xs 0 (pos 0) ≡ pos 0 → is_some_coefficient (trimmed (drop 1 xs)) ≡ false → xs ≡ zeros
    after_first [] long none g = absurd (omega (arith, long))
    after_first (x ∷ xs) long none g = ap (λ (y : ℤ). y ∷ xs) none ∙ ap (λ (ys : List ℤ). pos 0 ∷ ys) (zero_long xs 15 (omega (arith, long)) (all_zero xs g))

    by_kind : (b : Bool) → (kind == 0) ≡ b → is_some_coefficient (trimmed (drop (if b then 1 else 0) zs)) ≡ false → zs ≡ zeros
    by_kind true e g = after_first zs sized.long (first (eqb-true _ _ e)) g
    by_kind false e g = zero_long zs 16 sized.long (all_zero zs g)

-- luma after Y2 is there only with Y2
abbrev are_luma : Bool → List Place → Bool
are_luma y2 [] = true
are_luma y2 (p ∷ ps) = (if p.kind == 0 then y2 && nat_lt p.index 16 else true) && are_luma y2 ps

luma : (y2 : Bool) → are_luma y2 (places y2) ≡ true
unfolding places listed_from
luma true = refl
luma false = refl

no_first : (y2 : Bool) (ls : List (List ℤ)) (p : Place) → AreWritable y2 ls → (if p.kind == 0 then y2 && nat_lt p.index 16 else true) ≡ true → p.kind ≡ 0 → slice_index_or (slice_index_or ls p.index []) 0 (pos 0) ≡ pos 0
no_first y2 ls p w h e =
    let here = both y2 (nat_lt p.index 16) (subst (λ k. (if k == 0 then y2 && nat_lt p.index 16 else true) ≡ true) e h) in
    w.no_first here.0 p.index (ltb-true _ _ here.1)

set_same : (n i : ℕ) (z : List ℤ) → slice_set (replicate n z) i z ≡ replicate n z
set_same zero i z = refl
set_same (suc n) zero z = refl
set_same (suc n) (suc i) z = ap (λ (xs : List (List ℤ)). z ∷ xs) (set_same n i z)

-- blocks
no_blocks : (y2 : Bool) (ls : List (List ℤ)) → AreWritable y2 ls → ((k : ℕ) → k < 25 → IsSized (slice_index_or ls k [])) → (ps : List Place) → are_places ps ≡ true → are_luma y2 ps ≡ true
    → some_block ls ps ≡ false → (t : Tokens) → t.coefficients ≡ no_coefficients → (after_blocks ls ps t).coefficients ≡ no_coefficients
unfolding after_blocks
no_blocks y2 ls w sized [] placed lumas none t e = e
no_blocks y2 ls w sized (p ∷ ps) placed lumas none t e =
    let place = both _ _ placed in
    let in_blocks : p.index < 25 = ltb-true _ _ (both _ _ (both _ _ (both _ _ place.0).0).0).0 in
    let kind = both _ _ lumas in
    let empty = neither _ _ none in
    let zero_block : slice_index_or ls p.index [] ≡ zeros = no_block p.kind (slice_index_or ls p.index []) (sized p.index in_blocks) (no_first y2 ls p w kind.0) empty.0 in
    no_blocks y2 ls w sized ps place.1 kind.1 empty.1 (with_block t p (block_at ls p))
    (ap (λ (xs : List (List ℤ)). slice_set xs p.index (slice_index_or ls p.index [])) e ∙ (ap (λ (z : List ℤ). slice_set no_coefficients p.index z) zero_block ∙ set_same 25 p.index zeros))

-- a macroblock
none_there : (m : MbMode) (ls : List (List ℤ)) → AreLevels m ls → some_block ls (places (has_y2 m.y)) ≡ false → ls ≡ no_coefficients
unfolding after_macroblock
none_there m ls h none =
    sym (all_there (has_y2 m.y) [] [] ls h.blocks)
    ∙ no_blocks (has_y2 m.y) ls h.blocks h.sized (places (has_y2 m.y)) (all_places (has_y2 m.y)) (luma (has_y2 m.y)) none (tokens no_coefficients false [] []) refl

pub none_planned : (m : MbMode) (ls : List (List ℤ)) (b : Bool) → AreLevels m ls → macroblock m ls b ≡ planned m ls → b ≡ false → ls ≡ no_coefficients
none_planned m ls b h same none = by_skip m.skip refl (sym (ap (λ x. x.has_coefficients) same) ∙ none)
  where
    by_skip : (skip : Bool) → m.skip ≡ skip → (not skip && some_block ls (places (has_y2 m.y))) ≡ false → ls ≡ no_coefficients
    by_skip true e g = h.skipped e
    by_skip false e g = none_there m ls h g
