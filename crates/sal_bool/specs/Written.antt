-- The bytes that a list of bits at their probabilities is written as: the interval's exact low end (RFC 6386, 7).
use Rattle.std.specs.Prelude.{ℕ, suc, zero, ◌+◌, ◌-◌, ◌*◌, ◌/◌, ◌%◌, ◌^◌, ◌<◌, ◌≤◌, List, [], ◌∷◌, Bool, max, length}
use Rattle.sal_bool.specs.Bits.{Interval, next}

-- the interval after pairs of a probability and a bit
abbrev pub steps : Interval → List (ℕ × Bool) → Interval
steps i [] = i
steps i (x ∷ xs) = steps (next i x.0 x.1) xs

-- each probability of the pairs is a byte
abbrev pub AreFit : List (ℕ × Bool) → Type 0
AreFit [] = Unit {0}
AreFit (x ∷ xs) = (x.0 < 256) × AreFit xs

-- the number x in n bytes, highest first
abbrev pub be_bytes : ℕ → ℕ → List ℕ
be_bytes zero x = []
be_bytes (suc n) x = (x / 256 ^ n) % 256 ∷ be_bytes n x

-- the number that bytes spell, highest first
abbrev pub value : List ℕ → ℕ
value [] = 0
value (x ∷ xs) = x * 256 ^ length xs + value xs

-- 8 + k bits in whole bytes, at least two
abbrev pub written_bytes : Interval → ℕ
written_bytes i = max 2 ((8 + i.k + 7) / 8)

-- the interval's low end in 8 + k bits, and zero bits to whole bytes, at least two
unfoldable pub written : Interval → List ℕ
written i = be_bytes (written_bytes i) (i.low * 2 ^ (8 * written_bytes i - (8 + i.k)))

-- an encoder's numbers as an interval: the bytes that are out, and 8 + count bits of the low end below them
abbrev pub standing : List ℕ → ℕ → ℕ → ℕ → Interval
standing out bottom count range = record { low = value out * 2 ^ (8 + count) + bottom; range = range; k = 8 * length out + count }

-- the whole interval lies below 255 * 2 ^ k, so that a carry never runs out of bytes
pub record IsBelow (i : Interval) : Type 0 where
  pub top : i.low + i.range ≤ 255 * 2 ^ i.k
