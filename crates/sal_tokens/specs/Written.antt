-- The bits that coefficients are written as, in their order, each by the place of its probability (RFC 6386, 13 and 19.3). One list
-- gives both the pairs that are put and the branches that are counted.
use Rattle.std.specs.Prelude.{◌≡◌, ℕ, suc, zero, ◌+◌, ◌-◌, ◌*◌, ◌<◌, min, ℤ, pos, List, [], ◌∷◌, ◌++◌, Bool, true, false, ◌==◌, ◌&&◌, nat_lt, nat_le, Option, Some, None, if◌then◌else◌, map, drop, length, replicate, count_by, unsigned_abs, slice_index, slice_index_or, slice_set, All}
use Rattle.sal_bool.specs.Syntax.{bit_of}
use Rattle.sal_bool.specs.Pairs.{Pairs, pair, number_pairs, is_negative, way}
use Rattle.sal_tables.specs.Tables.{bands_of, category_bases_of, category_bits_of}
use Rattle.sal_tables.specs.Trees.{token_entries}
use Rattle.sal_macroblock.specs.Blocks.{no_coefficients}
use Rattle.sal_macroblock.specs.Sizes.{Within}
use Rattle.sal_tokens.specs.Coefficients.{first_position, start_of, is_some_coefficient}
use Rattle.sal_tokens.specs.Blocks.{Tokens, tokens, places, context, with_block}
use Rattle.sal_tokens.specs.declared.places.Place.{Place}

-- a bit at a coefficient probability, by its place among the 1,056, or at a fixed probability
pub data Branch : Type 0 where
  Placed : (at : ℕ) → (bit : Bool) → Branch
  Fixed : (p : ℕ) → (bit : Bool) → Branch

-- what a branch is written as
abbrev pub pair_of : List ℕ → Branch → ℕ × Bool
pair_of probabilities (Placed at bit) = pair (slice_index probabilities at) bit
pair_of probabilities (Fixed p bit) = pair p bit

abbrev pub pairs_of : List ℕ → List Branch → Pairs
pairs_of probabilities bs = map (λ b. pair_of probabilities b) bs

-- how often each coefficient probability had a bit 0 and a bit 1; a count stays at the greatest u32
abbrev pub one_more : ℕ → ℕ
one_more n = min 4294967295 (n + 1)

abbrev pub counted : List (List ℕ) → Branch → List (List ℕ)
counted counts (Placed at bit) = let here = slice_index_or counts at [] in slice_set counts at (slice_set here (bit_of bit) (one_more (slice_index here (bit_of bit))))
counted counts (Fixed p bit) = counts

-- branches that are taken one after the other
unfoldable pub taken_all : {X : Type 0} → (X → Branch → X) → X → List Branch → X
taken_all f x [] = x
taken_all f x (b ∷ bs) = taken_all f (f x b) bs

abbrev pub counted_all : List (List ℕ) → List Branch → List (List ℕ)
counted_all counts bs = taken_all counted counts bs

-- how many of the six categories begin at or below a size (13.2)
abbrev pub category_count : ℕ → ℕ
category_count size = count_by (λ (b : ℕ). nat_le b size) category_bases_of

-- the token of a size: up to 4 its own, then its category's (13.2)
unfoldable pub token_of : ℕ → ℕ
token_of size = if nat_lt size 5 then size + 1 else 5 + category_count size

-- the way to each token's leaf from the root (13.2)
unfoldable pub ways : List Pairs
ways =
    ((0, false) ∷ [])
    ∷ ((0, true) ∷ (1, false) ∷ [])
    ∷ ((0, true) ∷ (1, true) ∷ (2, false) ∷ [])
    ∷ ((0, true) ∷ (1, true) ∷ (2, true) ∷ (3, false) ∷ (4, false) ∷ [])
    ∷ ((0, true) ∷ (1, true) ∷ (2, true) ∷ (3, false) ∷ (4, true) ∷ (5, false) ∷ [])
    ∷ ((0, true) ∷ (1, true) ∷ (2, true) ∷ (3, false) ∷ (4, true) ∷ (5, true) ∷ [])
    ∷ ((0, true) ∷ (1, true) ∷ (2, true) ∷ (3, true) ∷ (6, false) ∷ (7, false) ∷ [])
    ∷ ((0, true) ∷ (1, true) ∷ (2, true) ∷ (3, true) ∷ (6, false) ∷ (7, true) ∷ [])
    ∷ ((0, true) ∷ (1, true) ∷ (2, true) ∷ (3, true) ∷ (6, true) ∷ (8, false) ∷ (9, false) ∷ [])
    ∷ ((0, true) ∷ (1, true) ∷ (2, true) ∷ (3, true) ∷ (6, true) ∷ (8, false) ∷ (9, true) ∷ [])
    ∷ ((0, true) ∷ (1, true) ∷ (2, true) ∷ (3, true) ∷ (6, true) ∷ (8, true) ∷ (10, false) ∷ [])
    ∷ ((0, true) ∷ (1, true) ∷ (2, true) ∷ (3, true) ∷ (6, true) ∷ (8, true) ∷ (10, true) ∷ []) ∷ []

-- each place of a way is below 11
abbrev pub are_small : Pairs → Bool
are_small [] = true
are_small (x ∷ xs) = nat_lt x.0 11 && are_small xs

-- the place of the first of a token's eleven probabilities (13.3)
unfoldable pub row_at : ℕ → ℕ → ℕ → ℕ
row_at kind position context = ((kind * 8 + slice_index bands_of position) * 3 + context) * 11

-- the way to a token's leaf, over the probabilities from this place on
abbrev pub placed : ℕ → Option Pairs → List Branch
placed row (Some path) = map (λ (x : ℕ × Bool). Placed (row + x.0) x.1) path
placed row None = []

unfoldable pub token_branches : ℕ → Bool → ℕ → List Branch
token_branches row after_zero t = placed row (way (length token_entries) token_entries (start_of after_zero) t)

abbrev pub fixed : Pairs → List Branch
fixed qs = map (λ (x : ℕ × Bool). Fixed x.0 x.1) qs

-- the extra bits of a size above 4: how far it lies above the least of its category (13.2)
unfoldable pub extra_branches : ℕ → List Branch
extra_branches size =
    if nat_lt size 5 then []
    else (let k = category_count size - 1 in fixed (number_pairs (slice_index_or category_bits_of k []) (size - slice_index category_bases_of k)))

-- a coefficient other than 0 has a sign (13.2)
unfoldable pub sign_branches : ℤ → List Branch
sign_branches z = if unsigned_abs z == 0 then [] else Fixed 128 (is_negative z) ∷ []

-- these coefficients at the first of the last n positions, and the end of the block where positions are left (13.2 and 13.3)
unfoldable pub coefficients_branches : ℕ → ℕ → ℕ → Bool → List ℤ → List Branch
coefficients_branches kind zero context after_zero zs = []
coefficients_branches kind (suc n) context after_zero [] = token_branches (row_at kind (15 - n) context) after_zero 0
coefficients_branches kind (suc n) context after_zero (z ∷ zs) =
    token_branches (row_at kind (15 - n) context) after_zero (token_of (unsigned_abs z))
    ++ (extra_branches (unsigned_abs z) ++ (sign_branches z ++ coefficients_branches kind n (min 2 (unsigned_abs z)) (unsigned_abs z == 0) zs))

abbrev pub onto : ℤ → List ℤ → List ℤ
onto z [] = if unsigned_abs z == 0 then [] else z ∷ []
onto z (y ∷ ys) = z ∷ y ∷ ys

-- coefficients up to the last that isn't 0
abbrev pub trimmed : List ℤ → List ℤ
trimmed [] = []
trimmed (z ∷ zs) = onto z (trimmed zs)

-- those of a block that are written
abbrev pub written_of : ℕ → List ℤ → List ℤ
written_of kind zs = trimmed (drop (first_position kind) zs)

-- whether a block's first token isn't the end
abbrev pub is_some_block : ℕ → List ℤ → Bool
is_some_block kind zs = is_some_coefficient (written_of kind zs)

-- a block of a kind in a context
unfoldable pub block_branches : ℕ → ℕ → List ℤ → List Branch
block_branches kind context zs = coefficients_branches kind (16 - first_position kind) context false (written_of kind zs)

abbrev pub block_pairs : List ℕ → ℕ → ℕ → List ℤ → Pairs
block_pairs probabilities kind context zs = pairs_of probabilities (block_branches kind context zs)

-- a block, and whether its first token isn't the end
abbrev pub block_at : List (List ℤ) → Place → List ℤ × Bool
block_at ls p = (slice_index_or ls p.index [], is_some_block p.kind (slice_index_or ls p.index []))

-- blocks at these places, each in the context that those before it leave
unfoldable pub blocks_branches : List (List ℤ) → List Place → Tokens → List Branch
blocks_branches ls [] t = []
blocks_branches ls (p ∷ ps) t = block_branches p.kind (context t p) (slice_index_or ls p.index []) ++ blocks_branches ls ps (with_block t p (block_at ls p))

-- what they leave
unfoldable pub after_blocks : List (List ℤ) → List Place → Tokens → Tokens
after_blocks ls [] t = t
after_blocks ls (p ∷ ps) t = after_blocks ls ps (with_block t p (block_at ls p))

-- a macroblock that isn't skipped, by the contexts above and left
unfoldable pub macroblock_branches : Bool → List Bool → List Bool → List (List ℤ) → List Branch
macroblock_branches has_y2 above left ls = blocks_branches ls (places has_y2) (tokens no_coefficients false above left)

unfoldable pub after_macroblock : Bool → List Bool → List Bool → List (List ℤ) → Tokens
after_macroblock has_y2 above left ls = after_blocks ls (places has_y2) (tokens no_coefficients false above left)

-- whether some block's first token isn't the end, and the contexts that are left
pub record Leaves (t : Tokens) (has_coefficients : Bool) (above left : List Bool) : Type 0 where
  pub some : t.has_coefficients ≡ has_coefficients
  pub over : t.above ≡ above
  pub beside : t.left ≡ left

abbrev pub macroblock_pairs : List ℕ → Bool → List Bool → List Bool → List (List ℤ) → Pairs
macroblock_pairs probabilities has_y2 above left ls = pairs_of probabilities (macroblock_branches has_y2 above left ls)

-- coefficients that a macroblock can have, by block: without Y2 none in its block, and with it none at the first position of a luma block
pub record AreWritable (has_y2 : Bool) (ls : List (List ℤ)) : Type 0 where
  pub long : length ls ≡ 25
  pub no_y2 : has_y2 ≡ false → slice_index_or ls 24 [] ≡ replicate 16 (pos 0)
  pub no_first : has_y2 ≡ true → (k : ℕ) → k < 16 → slice_index_or (slice_index_or ls k []) 0 (pos 0) ≡ pos 0

-- a block has sixteen coefficients that a token can have
pub record IsSized (zs : List ℤ) : Type 0 where
  pub long : length zs ≡ 16
  pub small : All (Within 2114) zs

abbrev pub AreSized : List (List ℤ) → List Place → Type 0
AreSized ls [] = Unit {0}
AreSized ls (p ∷ ps) = IsSized (slice_index_or ls p.index []) × AreSized ls ps
