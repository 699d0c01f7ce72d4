-- The exact number that bytes form, and the interval that the bits read so far leave of it (RFC 6386, 7).
use Rattle.std.specs.Prelude.{ℕ, suc, zero, ◌+◌, ◌-◌, ◌*◌, ◌/◌, ◌%◌, ◌^◌, ◌≤◌, List, [], ◌∷◌, ◌++◌, Bool, nat_lt, nat_le, if◌then◌else◌}

-- the lowest n bits of x, highest first
abbrev pub low_bits : ℕ → ℕ → List ℕ
low_bits zero x = []
low_bits (suc n) x = (x / 2 ^ n) % 2 ∷ low_bits n x

-- bytes as bits, highest first
abbrev pub bits_of : List ℕ → List ℕ
bits_of [] = []
bits_of (x ∷ xs) = low_bits 8 x ++ bits_of xs

-- the number formed by the first m bits, with zeros after the end
abbrev pub first : ℕ → List ℕ → ℕ
first zero bits = 0
first (suc m) [] = 0
first (suc m) (b ∷ bits) = b * 2 ^ m + first m bits

-- the numbers of 8 + k bits from low on, as many as range
pub record Interval : Type 0 where
  pub low : ℕ
  pub range : ℕ
  pub k : ℕ

-- the range before any bit
pub record IsProper (i : Interval) : Type 0 where
  pub low : 128 ≤ i.range
  pub high : i.range ≤ 255

abbrev pub start : Interval
start = record { low = 0; range = 255; k = 0 }

-- how much of a range a bit 0 at probability p leaves
abbrev pub split_of : ℕ → ℕ → ℕ
split_of range p = 1 + (range - 1) * p / 256

-- what a bit at probability p leaves of an interval
abbrev pub narrow : Interval → ℕ → Bool → Interval
narrow i p bit =
    if bit then record { low = i.low + split_of i.range p; range = i.range - split_of i.range p; k = i.k }
    else record { low = i.low; range = split_of i.range p; k = i.k }

-- the same interval, over numbers of one more bit
abbrev pub double : Interval → Interval
double i = record { low = 2 * i.low; range = 2 * i.range; k = i.k + 1 }

-- doubled while the range is below 128, n times at most
unfoldable pub widen : ℕ → Interval → Interval
widen zero i = i
widen (suc n) i = widen n (if nat_lt i.range 128 then double i else i)

-- the interval after a bit at probability p; a range of 1 takes seven doublings
unfoldable pub next : Interval → ℕ → Bool → Interval
unfolding widen
next i p bit = widen 7 (narrow i p bit)

-- the bit at probability p: 1 exactly where the number is at or above the split
abbrev pub bit_at : List ℕ → Interval → ℕ → Bool
bit_at bytes i p = nat_le (i.low + split_of i.range p) (first (8 + i.k) (bits_of bytes))

-- the bits at these probabilities, in order
abbrev pub read_all : List ℕ → Interval → List ℕ → List Bool
read_all bytes i [] = []
read_all bytes i (p ∷ ps) = bit_at bytes i p ∷ read_all bytes (next i p (bit_at bytes i p)) ps
