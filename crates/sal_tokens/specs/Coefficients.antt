-- The coefficients of a block, in the order of their bits (RFC 6386, 13 and 19.3).
use Rattle.std.specs.Prelude.{ℕ, suc, zero, ◌+◌, ◌-◌, ◌*◌, min, ℤ, pos, List, [], ◌∷◌, ◌++◌, Bool, true, false, not, ◌==◌, nat_lt, if◌then◌else◌, length, replicate, slice_index, slice_index_or, slice_range}
use Rattle.sal_bool.specs.Syntax.{Syntax, Done, ◌>>=◌, flag, number, signed, when, leaf_from}
use Rattle.sal_tables.specs.Tables.{bands_of, category_bases_of, category_bits_of}
use Rattle.sal_tables.specs.Trees.{token_entries}

-- kinds of blocks: 0 luma after Y2, 1 Y2, 2 chroma, 3 luma with its first coefficient. Luma after Y2 begins at position 1 (13)
abbrev pub first_position : ℕ → ℕ
first_position kind = if kind == 0 then 1 else 0

-- the eleven probabilities at a position, by kind, band and context (13.3)
unfoldable pub token_row : List ℕ → ℕ → ℕ → ℕ → List ℕ
token_row probabilities kind position context =
    let at = ((kind * 8 + slice_index bands_of position) * 3 + context) * 11 in slice_range probabilities at (at + 11)

-- the size that a token other than the end stands for: up to 4 its own, then the least of its category and extra bits (13.2)
unfoldable pub token_size : ℕ → Syntax ℕ
token_size t =
    if nat_lt t 6 then Done (t - 1)
    else (number (slice_index_or category_bits_of (t - 6) []) 0 >>= λ v. Done (slice_index category_bases_of (t - 6) + v))

-- the pair of the token tree that a token is read from: after a zero the end isn't tested (13.2)
abbrev pub start_of : Bool → ℕ
start_of after_zero = if after_zero then 2 else 0

-- the coefficients at the last n positions, up to the end of the block. A coefficient's context is 0, 1 or 2 by the size before it (13.3)
unfoldable pub coefficients : List ℕ → ℕ → ℕ → ℕ → Bool → Syntax (List ℤ)
coefficients probabilities kind zero context after_zero = Done []
coefficients probabilities kind (suc n) context after_zero =
    leaf_from token_entries (token_row probabilities kind (15 - n) context) (start_of after_zero) >>= λ t.
    if t == 0 then Done []
    else (do
      size ← token_size t
      negative ← when (not (size == 0)) flag false
      rest ← coefficients probabilities kind n (min 2 size) (size == 0)
      Done (signed size negative ∷ rest))

-- sixteen coefficients in zigzag order: those read, with zeros before and after
abbrev pub filled_block : ℕ → List ℤ → List ℤ
filled_block first ls = replicate first (pos 0) ++ ls ++ replicate (16 - (first + length ls)) (pos 0)

abbrev pub is_some_coefficient : List ℤ → Bool
is_some_coefficient [] = false
is_some_coefficient (z ∷ zs) = true

-- a block of a kind in a context: its coefficients, and whether its first token isn't the end
unfoldable pub block : List ℕ → ℕ → ℕ → Syntax (List ℤ × Bool)
block probabilities kind context =
    coefficients probabilities kind (16 - first_position kind) context false >>= λ ls. Done (filled_block (first_position kind) ls, is_some_coefficient ls)
