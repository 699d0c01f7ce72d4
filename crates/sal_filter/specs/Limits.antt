-- How strongly a macroblock's edges are filtered (RFC 6386, 9.3, 9.4, 15.1 and 15.2).
use Rattle.std.specs.Prelude.{ℕ, ◌+◌, ◌-◌, ◌*◌, ◌/◌, ◌^◌, min, max, ℤ, pos, negsuc, ◌+ℤ◌, List, Bool, Option, Some, None, if◌then◌else◌, ◌==◌, nat_lt, nat_le, slice_index_or}
use Rattle.sal_macroblock.specs.declared.mode.RefKind.{RefKind}
use Rattle.sal_macroblock.specs.declared.mode.RefKind.TheVariants.{Intra, Last, Golden, Alt}
use Rattle.sal_base.specs.declared.kinds.YMode.{YMode}
use Rattle.sal_base.specs.declared.kinds.YMode.TheVariants.{B, NEAREST, NEAR, ZERO, NEW, SPLIT}
use Rattle.sal_macroblock.specs.declared.mode.MbMode.{MbMode}
use Rattle.sal_filter.specs.declared.head.FilterHead.{FilterHead}
use Rattle.sal_filter.specs.declared.limits.Limits.{Limits}

-- cut off at 0 and at 63
abbrev pub level_in : ℤ → ℕ
level_in (pos n) = min 63 n
level_in (negsuc n) = 0

-- one of four numbers, by segment, reference or mode
abbrev pub entry : List ℤ → ℕ → ℤ
entry xs k = slice_index_or xs k (pos 0)

-- the level of a segment: its own, or on top of the frame's (9.3)
abbrev pub segment_level : Option (Bool × List ℤ) → ℕ → ℕ → ℕ
segment_level None segment level = level
segment_level (Some s) segment level = level_in (if s.0 then entry s.1 segment else pos level +ℤ entry s.1 segment)

abbrev pub reference_number : RefKind → ℕ
reference_number Intra = 0
reference_number Last = 1
reference_number Golden = 2
reference_number Alt = 3

-- delta 0 for B, 1 for ZERO, 3 for SPLIT, 2 for other inter macroblocks, none for other intra ones
abbrev pub mode_delta : List ℤ → YMode → ℤ
mode_delta xs B = entry xs 0
mode_delta xs ZERO = entry xs 1
mode_delta xs SPLIT = entry xs 3
mode_delta xs NEAREST = entry xs 2
mode_delta xs NEAR = entry xs 2
mode_delta xs NEW = entry xs 2
mode_delta xs _ = pos 0

-- the deltas of the reference and of the mode on a level (9.4)
abbrev pub with_deltas : Option (List ℤ × List ℤ) → MbMode → ℕ → ℕ
with_deltas None m level = level
with_deltas (Some d) m level = level_in ((pos level +ℤ entry d.0 (reference_number m.reference)) +ℤ mode_delta d.1 m.y)

-- a macroblock's level
unfoldable pub level_of : FilterHead → MbMode → ℕ
level_of h m = with_deltas h.deltas m (segment_level h.segments m.segment h.level)

-- an interior limit falls with sharpness
unfoldable pub interior_of : ℕ → ℕ → ℕ
interior_of sharpness level =
    let shifted = level / 2 ^ ((if nat_lt 0 sharpness then 1 else 0) + (if nat_lt 4 sharpness then 1 else 0)) in
    max 1 (if sharpness == 0 then shifted else min (9 - sharpness) shifted)

-- the threshold of high variance
unfoldable pub threshold_of : Bool → ℕ → ℕ
threshold_of key level =
    if nat_le 40 level then (if key then 2 else 3)
    else (if nat_le 20 level then (if key then 1 else 2)
    else (if nat_le 15 level then 1 else 0))

-- of a level above 0: outer for edges between macroblocks, inner for those within
unfoldable pub limits_of : Bool → ℕ → ℕ → Limits
limits_of key sharpness level =
    let interior = interior_of sharpness level in
    record { outer = 2 * (level + 2) + interior; inner = 2 * level + interior; interior = interior; threshold = threshold_of key level }
