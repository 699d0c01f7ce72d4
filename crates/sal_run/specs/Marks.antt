-- Marks of numbers.
use Rattle.std.specs.Prelude.{ℕ, Bool, false, List, slice_index_or}

-- a mark by number, and how many of the first numbers, from 1, are all marked
pub record Marks : Type 0 where
  pub marks : List Bool
  pub known : ℕ

abbrev pub is_marked : Marks → ℕ → Bool
is_marked m number = slice_index_or m.marks number false
