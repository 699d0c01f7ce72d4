-- A decoder's numbers, and how they stand for the exact number.
use Rattle.std.specs.Prelude.{◌≡◌, ℕ, suc, zero, ◌+◌, ◌-◌, ◌*◌, ◌/◌, ◌^◌, ◌≤◌, ◌<◌, List, [], ◌∷◌, ◌++◌, Bool, nat_lt, nat_le, if◌then◌else◌, drop, length}
use Rattle.sal_bool.specs.Bits.{bits_of, low_bits, first, split_of, Interval, IsProper}

-- the next bit, and the bits after it; past the end there are zeros
abbrev pub head_bit : List ℕ → ℕ
head_bit [] = 0
head_bit (b ∷ bs) = b

abbrev pub rest_bits : List ℕ → List ℕ
rest_bits [] = []
rest_bits (b ∷ bs) = bs

-- a bit before others, but for a zero before none
abbrev pub onto : ℕ → List ℕ → List ℕ
onto zero [] = []
onto zero (c ∷ bs) = zero ∷ c ∷ bs
onto (suc b) bs = suc b ∷ bs

-- bits without the zeros at their end, which are read past the end as well
abbrev pub trimmed : List ℕ → List ℕ
trimmed [] = []
trimmed (b ∷ bs) = onto b (trimmed bs)

-- how far the number lies above the interval's low end, the interval's range, and the bits to come
pub record Reading : Type 0 where
  pub above : ℕ
  pub range : ℕ
  pub bits : List ℕ

abbrev pub reading : ℕ → ℕ → List ℕ → Reading
reading above range bits = record { above = above; range = range; bits = bits }

-- a decoder's window: the lead over the low end above count bits to come, and bytes after them
abbrev pub seen : ℕ → ℕ → ℕ → List ℕ → Reading
seen window count range rest = record { above = window / 2 ^ count; range = range; bits = trimmed (low_bits count window ++ bits_of rest) }

-- a window whose lead is below the range; or it is the whole range, and there are only zeros to come
abbrev pub IsWithin : ℕ → ℕ → ℕ → List ℕ → Type 0
IsWithin window count range rest = (window ≤ range * 2 ^ count) × (0 < length rest → window < range * 2 ^ count)

-- range and lead doubled, with one more bit
abbrev pub doubled : Reading → Reading
doubled r = record { above = 2 * r.above + head_bit r.bits; range = 2 * r.range; bits = rest_bits r.bits }

-- doubled until the range is at least 128, n times at most
unfoldable pub settled : ℕ → Reading → Reading
settled zero r = r
settled (suc n) r = settled n (if nat_lt r.range 128 then doubled r else r)

abbrev pub next_bit : Reading → ℕ → Bool
next_bit r p = nat_le (split_of r.range p) r.above

abbrev pub narrowed : Reading → ℕ → Bool → Reading
narrowed r p bit =
    if bit then record { above = r.above - split_of r.range p; range = r.range - split_of r.range p; bits = r.bits }
    else record { above = r.above; range = split_of r.range p; bits = r.bits }

unfoldable pub after_bit : Reading → ℕ → Reading
after_bit r p = settled 7 (narrowed r p (next_bit r p))

-- over whole bytes. A first byte 255 is above every interval, and stays there: the lead is the whole range, for ever
abbrev pub opened : List ℕ → Reading
opened bytes =
    if nat_le 255 (head_bit bytes) then record { above = 255; range = 255; bits = [] }
    else record { above = head_bit bytes; range = 255; bits = trimmed (bits_of (rest_bits bytes)) }

-- a decoder over these bytes that has come to this interval. A number above it counts as the range, whatever comes
pub record StandsFor (bytes : List ℕ) (i : Interval) (r : Reading) : Type 0 where
  pub proper : IsProper i
  pub range : r.range ≡ i.range
  pub low : i.low ≤ first (8 + i.k) (bits_of bytes)
  pub inside : first (8 + i.k) (bits_of bytes) < i.low + i.range → (r.above ≡ first (8 + i.k) (bits_of bytes) - i.low) × (r.bits ≡ trimmed (drop (8 + i.k) (bits_of bytes)))
  pub outside : i.low + i.range ≤ first (8 + i.k) (bits_of bytes) → (r.above ≡ i.range) × (r.bits ≡ [])
