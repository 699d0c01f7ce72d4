-- How many bits a value takes at most, and how many bytes bits take at most.
use Rattle.std.specs.Prelude.{ℕ, suc, zero, ◌+◌, ◌*◌, ◌/◌, Bool}
use Rattle.sal_bool.specs.Syntax.{Syntax, Done, Bit}

-- n bits at most, whatever they are
unfoldable pub TakesAtMost : {X : Type 0} → Syntax X → ℕ → Type 0
TakesAtMost (Done x) n = Unit {0}
TakesAtMost (Bit p s) zero = ⊥
TakesAtMost (Bit p s) (suc n) = (b : Bool) → TakesAtMost (s b) n

-- what n bits are written as: eight bits of the low end and one more for each doubling, of which a bit makes seven at most
abbrev pub bytes_at_most : ℕ → ℕ
bytes_at_most n = 2 + 7 * n / 8
