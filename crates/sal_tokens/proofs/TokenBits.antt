-- How many bits the coefficients of a macroblock take at most.
use Rattle.std.proofs.Common.{◌≡◌, ℕ, suc, zero, ◌+◌, ◌-◌, ◌*◌, ◌≤◌, List, [], ◌∷◌, Bool, true, false, not, ◌==◌, refl, arith, length, subst, get_or, nat_lt, min, lit≤}
use Rattle.sal_base.specs.Samples.{listed_from}
use Rattle.sal_bool.specs.Syntax.{number, leaf_from}
use Rattle.sal_bool.specs.Sizes.{TakesAtMost}
use Rattle.sal_bool.proofs.Bounds.{takes_more, takes_done, takes_then, takes_if, takes_one, takes_number, takes_walk}
use Rattle.sal_tables.specs.Tables.{category_bits_of}
use Rattle.sal_tables.specs.Trees.{token_entries}
use Rattle.sal_macroblock.specs.Blocks.{no_coefficients}
use Rattle.sal_tokens.specs.declared.places.Place.{Place}
use Rattle.sal_tokens.specs.Coefficients.{token_row, token_size, start_of, coefficients, first_position, block}
use Rattle.sal_tokens.specs.Blocks.{places, Tokens, tokens, context, with_block, blocks, macroblock}

-- a token's way through its tree
token_long : length token_entries ≡ 22
unfolding token_entries
token_long = refl

token_bits : (row : List ℕ) (start : ℕ) → TakesAtMost (leaf_from token_entries row start) 22
token_bits row start = let P : ℕ → Type 0 = λ n. TakesAtMost (leaf_from token_entries row start) n in subst P token_long (takes_walk (length token_entries) token_entries row start)

-- at most eleven extra bits
AreShort : List (List ℕ) → Type 0
AreShort [] = Unit {0}
AreShort (x ∷ xs) = (length x ≤ 11) × AreShort xs

short_at : (xss : List (List ℕ)) (k : ℕ) → AreShort xss → length (get_or xss k []) ≤ 11
unfolding AreShort
short_at [] k h = lit≤ tt
short_at (x ∷ xs) zero h = h.0
short_at (x ∷ xs) (suc k) h = short_at xs k h.1

all_short : AreShort category_bits_of
unfolding AreShort category_bits_of
all_short = (lit≤ tt, (lit≤ tt, (lit≤ tt, (lit≤ tt, (lit≤ tt, (lit≤ tt, tt))))))

extra_bits : (k : ℕ) → TakesAtMost (number (get_or category_bits_of k []) 0) 11
extra_bits k = takes_more _ (length (get_or category_bits_of k [])) 11 (short_at category_bits_of k all_short) (takes_number (get_or category_bits_of k []) 0)

size_bits : (t : ℕ) → TakesAtMost (token_size t) 11
unfolding token_size
size_bits t = takes_if (nat_lt t 6) _ _ 11 (takes_done (t - 1) 11) (takes_then _ _ 11 0 (extra_bits (t - 6)) (λ v. takes_done _ 0))

-- a coefficient: its token, extra bits and a sign
coefficients_bits : (ps : List ℕ) (kind n context : ℕ) (after_zero : Bool) → TakesAtMost (coefficients ps kind n context after_zero) (34 * n)
unfolding coefficients
coefficients_bits ps kind zero context after_zero = takes_done _ _
coefficients_bits ps kind (suc n) context after_zero =
    let same : 22 + (11 + (1 + (34 * n + 0))) ≡ 34 * suc n = omega arith in
    let P : ℕ → Type 0 = λ k. TakesAtMost (coefficients ps kind (suc n) context after_zero) k in
    subst P same
    (takes_then _ _ 22 (11 + (1 + (34 * n + 0))) (token_bits (token_row ps kind (15 - n) context) (start_of after_zero)) (λ t.
    takes_if (t == 0) _ _ (11 + (1 + (34 * n + 0))) (takes_done _ _)
    (takes_then _ _ 11 (1 + (34 * n + 0)) (size_bits t) (λ size.
    takes_then _ _ 1 (34 * n + 0) (takes_if (not (size == 0)) _ _ 1 (takes_one 128) (takes_done false 1)) (λ negative.
    takes_then _ _ (34 * n) 0 (coefficients_bits ps kind n (min 2 size) (size == 0)) (λ rest.
    takes_done _ 0))))))

pub block_bits : (ps : List ℕ) (kind context : ℕ) → TakesAtMost (block ps kind context) 544
unfolding block
block_bits ps kind context =
    let few : 34 * (16 - first_position kind) ≤ 544 = omega arith in
    takes_then _ _ 544 0 (takes_more _ (34 * (16 - first_position kind)) 544 few (coefficients_bits ps kind (16 - first_position kind) context false)) (λ ls. takes_done _ 0)

blocks_bits : (ps : List ℕ) (xs : List Place) (t : Tokens) → TakesAtMost (blocks ps xs t) (544 * length xs)
unfolding blocks
blocks_bits ps [] t = takes_done t _
blocks_bits ps (x ∷ xs) t =
    let same : 544 + 544 * length xs ≡ 544 * length (x ∷ xs) = omega arith in
    let P : ℕ → Type 0 = λ k. TakesAtMost (blocks ps (x ∷ xs) t) k in
    subst P same (takes_then _ _ 544 (544 * length xs) (block_bits ps x.kind (context t x)) (λ b. blocks_bits ps xs (with_block t x b)))

many_places : (has_y2 : Bool) → length (places has_y2) ≤ 25
unfolding places listed_from
many_places true = lit≤ tt
many_places false = lit≤ tt

pub macroblock_bits : (ps : List ℕ) (has_y2 : Bool) (above left : List Bool) → TakesAtMost (macroblock ps has_y2 above left) 13600
unfolding macroblock
macroblock_bits ps has_y2 above left =
    let few = many_places has_y2 in
    takes_more _ (544 * length (places has_y2)) 13600 (omega (arith, few)) (blocks_bits ps (places has_y2) (tokens no_coefficients false above left))
