-- What a block reads of a reference: the window of samples around it.
use Rattle.std.specs.Prelude.{◌≡◌, ℕ, suc, zero, ◌+◌, ◌*◌, ◌^◌, ◌<◌, Bool, ℤ, pos, neg_ℤ, ◌+ℤ◌, ◌-ℤ◌, ◌≤ℤ◌, List, length, slice_index}
use Rattle.sal_inter.specs.Inter.{six_sum, place_in, sample, whole_of, fraction_of}
use Rattle.sal_base.specs.declared.picture.Plane.{Plane}
use Rattle.sal_inter.specs.declared.span.Span.{Span}
use Rattle.sal_inter.specs.Taps.{weighed, filtered}
use Rattle.sal_inter.specs.declared.taps.Taps.{Taps}

-- how many more samples than a block has are read along a side: five by a filter, none where there is no fraction
abbrev pub reach : ℕ → ℕ
reach zero = 0
reach (suc fraction) = 5

-- how many of them lie before the block
abbrev pub before : ℕ → ℤ
before zero = pos 0
before (suc fraction) = pos 2

-- the sample at n of what is read, or six from there on through the filter of a fraction
abbrev pub taken : ℕ → (ℕ → ℕ) → ℕ → ℕ
taken zero f n = f n
taken (suc k) f n = six_sum (suc k) (f n) (f (n + 1)) (f (n + 2)) (f (n + 3)) (f (n + 4)) (f (n + 5))

-- rows first, then the column of their results
abbrev pub taken_both : ℕ → ℕ → (ℕ → ℕ → ℕ) → ℕ → ℕ → ℕ
taken_both across down f row column = taken down (λ r. taken across (λ c. f r c) column) row

-- filtered rows, and six of them through a second filter
abbrev pub filtered_both : Taps → Taps → List ℕ → ℕ → ℕ → ℕ → ℕ
filtered_both across down samples stride row column =
    let f = filtered across samples stride 1 in
    weighed down (f row column) (f (row + 1) column) (f (row + 2) column) (f (row + 3) column) (f (row + 4) column) (f (row + 5) column)

-- a place that a vector can lead to
abbrev pub IsPlace : ℤ → Type 0
IsPlace z = (neg_ℤ (pos (2 ^ 33)) ≤ℤ z) × (z ≤ℤ pos (2 ^ 33))

-- each sample is a byte
abbrev pub AreBytes : List ℕ → Type 0
AreBytes samples = (i : ℕ) → slice_index samples i < 256

-- a sample of a row, past its ends the nearest
abbrev pub nearest : List ℕ → ℤ → ℕ
nearest samples column = slice_index samples (place_in (length samples) column)

-- these are the samples of a row from a column on
abbrev pub IsNearestRow : List ℕ → ℤ → List ℕ → Type 0
IsNearestRow samples left out = (k : ℕ) → k < length out → slice_index out k ≡ nearest samples (left +ℤ pos k)

-- what a block of a side reads along it: its samples, and with a fraction five more
pub record Reads (side : ℕ) (s : Span) : Type 0 where
  pub fraction : s.fraction < 8
  pub count : s.count ≡ side + reach s.fraction
  pub start : IsPlace s.start

-- the same by a vector's component, from two samples before the block on where there is a fraction
pub record IsSpan (place : ℤ) (side : ℕ) (eighths : Bool) (component : ℤ) (s : Span) : Type 0 where
  pub fraction : s.fraction ≡ fraction_of eighths component
  pub start : s.start ≡ (place +ℤ whole_of eighths component) -ℤ before s.fraction
  pub reads : Reads side s

-- all of it lies in a side of so many samples
pub record IsInside (s : Span) (side : ℕ) : Type 0 where
  pub low : pos 0 ≤ℤ s.start
  pub high : (s.start +ℤ pos s.count) ≤ℤ pos side

-- where the first sample of two spans stands in rows of a width
pub record IsFirst (width : ℕ) (across down : Span) (at : ℕ) : Type 0 where
  pub column : ℕ
  pub row : ℕ
  pub across_is : across.start ≡ pos column
  pub down_is : down.start ≡ pos row
  pub at_is : at ≡ row * width + column

-- the sample at a row and column of a block out of its window in a plane
abbrev pub window_sample : Plane → Span → Span → ℕ → ℕ → ℕ
window_sample p across down row column =
    taken_both across.fraction down.fraction (λ r c. sample p (across.start +ℤ pos c) (down.start +ℤ pos r)) row column

-- rows that lie a stride apart hold the window of two spans
abbrev pub IsWindow : Plane → Span → Span → List ℕ → ℕ → Type 0
IsWindow p across down samples stride =
    (r c : ℕ) → r < down.count → c < across.count → slice_index samples (r * stride + c) ≡ sample p (across.start +ℤ pos c) (down.start +ℤ pos r)
