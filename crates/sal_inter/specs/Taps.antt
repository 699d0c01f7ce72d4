-- Six taps by their sizes, in numbers without signs.
use Rattle.std.specs.Prelude.{◌≡◌, ℕ, ◌+◌, ◌-◌, ◌*◌, ◌/◌, ◌<◌, min, List, length, slice_index}
use Rattle.sal_inter.specs.Inter.{six_sum}
use Rattle.sal_inter.specs.declared.taps.Taps.{Taps}

-- what is added less what is taken away, in parts of 128, rounded half up and cut off
abbrev pub by_sizes : ℕ → ℕ → ℕ → ℕ → ℕ → ℕ → ℕ → ℕ → ℕ → ℕ → ℕ → ℕ → ℕ
by_sizes s0 s1 s2 s3 s4 s5 a b c d e f =
    min 255 (((64 + s0 * a + s2 * c + s3 * d + s5 * f) - (s1 * b + s4 * e)) / 128)

-- six samples through a filter
unfoldable pub weighed : Taps → ℕ → ℕ → ℕ → ℕ → ℕ → ℕ → ℕ
weighed t a b c d e f = by_sizes t.first t.second t.third t.fourth t.fifth t.sixth a b c d e f

-- these are the taps of a fraction's filter
abbrev pub IsFilter : ℕ → Taps → Type 0
IsFilter fraction t = (a b c d e f : ℕ) → weighed t a b c d e f ≡ six_sum fraction a b c d e f

-- the six samples from a place on that lie a step apart, through a filter
abbrev pub weighed_at : Taps → List ℕ → ℕ → ℕ → ℕ
weighed_at t samples step k =
    weighed t (slice_index samples k) (slice_index samples (k + step)) (slice_index samples (k + 2 * step)) (slice_index samples (k + 3 * step)) (slice_index samples (k + 4 * step)) (slice_index samples (k + 5 * step))

-- each sample of a row is that
abbrev pub IsFilteredRow : Taps → List ℕ → ℕ → List ℕ → Type 0
IsFilteredRow t samples step out = (k : ℕ) → k < length out → slice_index out k ≡ weighed_at t samples step k

-- samples at a row and column, in rows that lie a stride apart
abbrev pub placed : List ℕ → ℕ → ℕ → ℕ → ℕ
placed samples stride row column = slice_index samples (row * stride + column)

-- the same through a filter
abbrev pub filtered : Taps → List ℕ → ℕ → ℕ → ℕ → ℕ → ℕ
filtered t samples stride step row column = weighed_at t samples step (row * stride + column)
