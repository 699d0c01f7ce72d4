-- Vectors that are read (RFC 6386, 17).
use Rattle.std.specs.Prelude.{ℕ, ◌+◌, ◌^◌, ℤ, List, [], ◌∷◌, false, not, ◌==◌, nat_lt, if◌then◌else◌, slice_index, slice_range}
use Rattle.sal_base.specs.declared.kinds.Vector.{Vector}
use Rattle.sal_bool.specs.Syntax.{Syntax, Done, Bit, ◌>>=◌, one, signed, when, leaf}
use Rattle.sal_tables.specs.Trees.{short_vector_entries}
use Rattle.sal_macroblock.specs.Macroblocks.{vector}

-- these bits of a number, added to v; bit i has its probability at place 9 + i
unfoldable pub bits_at : List ℕ → List ℕ → ℕ → Syntax ℕ
bits_at ps [] v = Done v
bits_at ps (i ∷ is) v = Bit (slice_index ps (9 + i)) (λ b. bits_at ps is (v + (if b then 2 ^ i else 0)))

-- a long size: bits 0 to 2, 9 down to 4, and 3, which is 1 unread where no higher bit is set (17.2)
unfoldable pub long_size : List ℕ → Syntax ℕ
long_size ps = do
  v ← bits_at ps (0 ∷ 1 ∷ 2 ∷ 9 ∷ 8 ∷ 7 ∷ 6 ∷ 5 ∷ 4 ∷ []) 0
  if nat_lt v 16 then Done (v + 8) else bits_at ps (3 ∷ []) v

-- a component, by its nineteen probabilities: whether its size is long at place 0, the short tree at places 2 to 8, and the
-- sign, unless the size is 0, at place 1 (17.2)
unfoldable pub component : List ℕ → Syntax ℤ
component ps = do
  long ← one (slice_index ps 0)
  size ← (if long then long_size ps else leaf short_vector_entries (slice_range ps 2 9))
  negative ← when (not (size == 0)) (one (slice_index ps 1)) false
  Done (signed size negative)

-- row before column (17.1)
unfoldable pub read_vector : List ℕ → Syntax Vector
read_vector ps = do
  row ← component (slice_range ps 0 19)
  column ← component (slice_range ps 19 38)
  Done (vector row column)
