-- All that stands at the front of some bytes, read one after the other.
use Rattle.std.specs.Prelude.{ℕ, zero, suc, List, [], ◌∷◌, Option, Some, None, Bool, ◌==◌, length}
use Rattle.sal_io.specs.Told.{Reading}

abbrev pub and_more : {X : Type 0} → Option (X × List ℕ) → List ℕ → (List ℕ → List X × List ℕ) → List X × List ℕ
and_more None bytes more = ([], bytes)
and_more (Some x) bytes more = (x.0 ∷ (more x.1).0, (more x.1).1)

-- the values at the front, at most so many, and the bytes that come after them
unfoldable pub front : {X : Type 0} → Reading X → ℕ → List ℕ → List X × List ℕ
front read zero bytes = ([], bytes)
front read (suc n) bytes = and_more (read bytes) bytes (front read n)

abbrev pub is_empty : {X : Type 0} → List X → Bool
is_empty xs = length xs == 0
