-- How large signed numbers are.
use Rattle.std.specs.Prelude.{ℕ, ℤ, pos, neg_ℤ, ◌≤ℤ◌}

-- of at most this size
abbrev pub Within : ℕ → ℤ → Type 0
Within n z = (neg_ℤ (pos n) ≤ℤ z) × (z ≤ℤ pos n)
