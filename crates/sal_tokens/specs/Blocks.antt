-- The blocks of a macroblock, in the order of their bits, with the contexts from those left and above (RFC 6386, 13.3 and 19.3).
use Rattle.std.specs.Prelude.{ℕ, ◌+◌, ◌/◌, ◌%◌, ℤ, List, [], ◌∷◌, ◌++◌, Bool, true, false, ◌&&◌, ◌||◌, nat_lt, if◌then◌else◌, replicate, slice_index_or, slice_set}
use Rattle.sal_base.specs.Samples.{listed}
use Rattle.sal_bool.specs.Syntax.{Syntax, Done, ◌>>=◌, bit_of}
use Rattle.sal_macroblock.specs.Blocks.{no_coefficients}
use Rattle.sal_tokens.specs.Coefficients.{block}
use Rattle.sal_tokens.specs.declared.places.Place.{Place}

abbrev pub place : ℕ → ℕ → ℕ → ℕ → Place
place index kind above left = record { index = index; kind = kind; above = above; left = left }

-- Y2 where there is one, then luma, U and V in raster order. Blocks 0 to 15 are luma, 16 to 19 U, 20 to 23 V, 24 Y2;
-- contexts 0 to 3 are of luma, 4 and 5 of U, 6 and 7 of V, 8 of Y2
unfoldable pub places : Bool → List Place
places has_y2 =
    (if has_y2 then place 24 1 8 8 ∷ [] else [])
    ++ listed 16 (λ i. place i (if has_y2 then 0 else 3) (i % 4) (i / 4))
    ++ listed 4 (λ i. place (16 + i) 2 (4 + i % 2) (4 + i / 2))
    ++ listed 4 (λ i. place (20 + i) 2 (6 + i % 2) (6 + i / 2))

-- each of these is one of the 25 blocks and of the four kinds, with one of nine contexts on either side
abbrev pub are_places : List Place → Bool
are_places [] = true
are_places (p ∷ ps) = nat_lt p.index 25 && nat_lt p.kind 4 && nat_lt p.above 9 && nat_lt p.left 9 && are_places ps

-- coefficients by block, whether some block's first token isn't the end, and the contexts that the blocks leave
pub record Tokens : Type 0 where
  pub coefficients : List (List ℤ)
  pub has_coefficients : Bool
  pub above : List Bool
  pub left : List Bool

abbrev pub tokens : List (List ℤ) → Bool → List Bool → List Bool → Tokens
tokens coefficients has_coefficients above left = record { coefficients = coefficients; has_coefficients = has_coefficients; above = above; left = left }

-- outside the picture no block has a coefficient
abbrev pub no_contexts : List Bool
no_contexts = replicate 9 false

abbrev pub is_set : List Bool → ℕ → Bool
is_set bs k = slice_index_or bs k false

-- how many of the blocks above and left have a first token other than the end
abbrev pub context : Tokens → Place → ℕ
context t p = bit_of (is_set t.above p.above) + bit_of (is_set t.left p.left)

abbrev pub with_block : Tokens → Place → List ℤ × Bool → Tokens
with_block t p b =
    record { coefficients = slice_set t.coefficients p.index b.0; has_coefficients = t.has_coefficients || b.1; above = slice_set t.above p.above b.1; left = slice_set t.left p.left b.1 }

unfoldable pub blocks : List ℕ → List Place → Tokens → Syntax Tokens
blocks probabilities [] t = Done t
blocks probabilities (p ∷ ps) t = block probabilities p.kind (context t p) >>= λ b. blocks probabilities ps (with_block t p b)

-- a macroblock that isn't skipped; without Y2 the contexts of Y2 stay as they were
unfoldable pub macroblock : List ℕ → Bool → List Bool → List Bool → Syntax Tokens
macroblock probabilities has_y2 above left =
    blocks probabilities (places has_y2) (tokens no_coefficients false above left)

-- a skipped macroblock clears contexts, that of Y2 only where it has Y2
abbrev pub cleared : Bool → List Bool → List Bool
cleared has_y2 cs = if has_y2 then no_contexts else replicate 8 false ++ is_set cs 8 ∷ []

-- a skipped macroblock has no tokens
abbrev pub skipped : Bool → List Bool → List Bool → Tokens
skipped has_y2 above left = record { coefficients = no_coefficients; has_coefficients = false; above = cleared has_y2 above; left = cleared has_y2 left }
