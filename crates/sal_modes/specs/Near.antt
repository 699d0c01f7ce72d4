-- The vectors that the macroblocks above, left and above-left suggest (RFC 6386, 16.3).
use Rattle.std.specs.Prelude.{◌≡◌, ◌⊎◌, ◌≤ℤ◌, ℕ, ◌+◌, ℤ, pos, neg_ℤ, List, Bool, false, ◌&&◌, not, nat_lt, nat_le, ◌==◌, if◌then◌else◌, replicate, slice_index, slice_index_or, slice_set}
use Rattle.std.specs.Ordering.{int_eq}
use Rattle.sal_base.specs.declared.kinds.Vector.{Vector}
use Rattle.sal_macroblock.specs.declared.mode.RefKind.{RefKind}
use Rattle.sal_macroblock.specs.declared.mode.RefKind.TheVariants.{Intra, Last, Golden, Alt}
use Rattle.sal_macroblock.specs.declared.mode.MbMode.{MbMode}
use Rattle.sal_modes.specs.declared.around.Bias.{Bias}
use Rattle.sal_modes.specs.declared.around.Bounds.{Bounds}
use Rattle.sal_modes.specs.declared.around.Near.{Near}
use Rattle.sal_modes.specs.declared.near.Slots.{Slots}
use Rattle.sal_macroblock.specs.Macroblocks.{vector, own_vector, is_intra, is_split}
use Rattle.sal_modes.specs.Vectors.{in_bounds}

-- a row and a column, of any size
abbrev pub Motion : Type 0
Motion = ℤ × ℤ

abbrev pub still : Motion
still = (pos 0, pos 0)

abbrev pub motion_of : Vector → Motion
motion_of v = (v.row, v.column)

abbrev pub equal : Motion → Motion → Bool
equal a b = int_eq a.0 b.0 && int_eq a.1 b.1

abbrev pub motion_at : List Motion → ℕ → Motion
motion_at ms k = slice_index_or ms k still

-- no slot is filled; slot 0 is for the zero vector
abbrev pub no_slots : Slots
no_slots = record { filled = 0; motions = replicate 4 still; counts = replicate 4 0 }

abbrev pub count : Slots → ℕ → ℕ
count s k = slice_index s.counts k

abbrev pub counted : ℕ → ℕ → Slots → Slots
counted k weight s = record s { counts = slice_set s.counts k (count s k + weight) }

abbrev pub next_filled : Motion → Slots → Slots
next_filled v s = record s { filled = s.filled + 1; motions = slice_set s.motions (s.filled + 1) v }

-- into the next slot, unless it equals the one filled last
unfoldable pub put_motion : Motion → ℕ → Slots → Slots
put_motion v weight s =
    if equal v (motion_at s.motions s.filled) then counted s.filled weight s
    else counted (s.filled + 1) weight (next_filled v s)

abbrev pub bias_of : Bias → RefKind → Bool
bias_of b Intra = false
bias_of b Last = false
bias_of b Golden = b.golden
bias_of b Alt = b.alt

abbrev pub differ : Bool → Bool → Bool
differ a b = if a then not b else b

-- negated by sign bias where the sign biases differ
abbrev pub negated : Bias → RefKind → Motion → Motion
negated b r v = if differ (bias_of b r) b.own then (neg_ℤ v.0, neg_ℤ v.1) else v

-- one neighbour with its weight
unfoldable pub noted : Bias → MbMode → ℕ → Slots → Slots
noted b m weight s =
    if is_intra m.reference then s
    else (if equal (motion_of (own_vector m)) still then counted 0 weight s
    else put_motion (negated b m.reference (motion_of (own_vector m))) weight s)

-- a third vector that equals the first counts for it
abbrev pub joined : Slots → Slots
joined s = if s.filled == 3 && equal (motion_at s.motions 3) (motion_at s.motions 1) then counted 1 1 s else s

abbrev pub split_weight : MbMode → ℕ → ℕ
split_weight m weight = if is_split m.y then weight else 0

abbrev pub with_splits : MbMode → MbMode → MbMode → Slots → Slots
with_splits above left corner s = record s { counts = slice_set s.counts 3 (split_weight above 2 + split_weight left 2 + split_weight corner 1) }

-- the one with the greater count first
abbrev pub ordered : Slots → Slots
ordered s =
    if nat_lt (count s 1) (count s 2)
    then record s { motions = slice_set (slice_set s.motions 1 (motion_at s.motions 2)) 2 (motion_at s.motions 1); counts = slice_set (slice_set s.counts 1 (count s 2)) 2 (count s 1) }
    else s

-- the first vector, unless the zero vector counts for more
abbrev pub best : Slots → Motion
best s = if nat_le (count s 0) (count s 1) then motion_at s.motions 1 else still

abbrev pub clamped_to : Bounds → Motion → Vector
clamped_to b m = in_bounds b (vector m.0 m.1)

abbrev pub near_from : Bounds → Slots → Near
near_from bounds s =
    record { best = clamped_to bounds (best s); nearest = clamped_to bounds (motion_at s.motions 1); near = clamped_to bounds (motion_at s.motions 2); counts = s.counts }

-- above and left weigh 2, above-left 1
unfoldable pub near_of : MbMode → MbMode → MbMode → Bias → Bounds → Near
near_of above left corner b bounds =
    near_from bounds (ordered (with_splits above left corner (joined (noted b corner 1 (noted b left 2 (noted b above 2 no_slots))))))

-- a neighbour's vector, negated by sign bias or not
abbrev pub IsNeighbours : MbMode → Motion → Type 0
IsNeighbours m v = (v ≡ motion_of (own_vector m)) ⊎ (v ≡ (neg_ℤ (own_vector m).row, neg_ℤ (own_vector m).column))

-- what may be suggested: zero, or a neighbour's vector
abbrev pub IsSuggested : MbMode → MbMode → MbMode → Motion → Type 0
IsSuggested above left corner v = (v ≡ still) ⊎ (IsNeighbours above v ⊎ (IsNeighbours left v ⊎ IsNeighbours corner v))

-- such a vector, cut off at the bounds
abbrev pub IsCutOff : MbMode → MbMode → MbMode → Bounds → Vector → Type 0
IsCutOff above left corner bounds x = (v : Motion) × (IsSuggested above left corner v × (x ≡ clamped_to bounds v))

-- the least is not above the greatest
pub record AreOrdered (b : Bounds) : Type 0 where
  pub rows : b.least.row ≤ℤ b.greatest.row
  pub columns : b.least.column ≤ℤ b.greatest.column

-- a vector that lies in the bounds
pub record IsInBounds (b : Bounds) (v : Vector) : Type 0 where
  pub least_row : b.least.row ≤ℤ v.row
  pub greatest_row : v.row ≤ℤ b.greatest.row
  pub least_column : b.least.column ≤ℤ v.column
  pub greatest_column : v.column ≤ℤ b.greatest.column
