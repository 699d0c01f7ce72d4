-- What one fragment does to the slots, step by step as the bodies do it.
use Rattle.std.specs.Prelude.{ℕ, suc, ◌≤◌, ◌%◌, List, [], ◌∷◌, length, map, replicate, get_or, set, flat_map, Option, Some, None, is_some, unwrap_or, Result, Ok, Err, nat_lt, nat_le, if◌then◌else◌}
use Rattle.std.specs.List.{list_all}
use Rattle.sal_base.specs.declared.memory.Memory.{Memory}
use Rattle.sal_base.specs.declared.limits.TheConstants.{WINDOW}
use Rattle.sal_wire.specs.declared.layout.TheConstants.{MAX_DATA}
use Rattle.sal_wire.specs.Fields.{FragmentFields}
use Rattle.sal_reasm.specs.declared.answers.ClashField.TheVariants.{Source, Target, Count}
use Rattle.sal_reasm.specs.declared.answers.Offered.{Offered}
use Rattle.sal_reasm.specs.declared.answers.Offered.TheVariants.{Stale, Clash, Repeat, Complete, Kept}
use Rattle.sal_reasm.specs.Offer.{Difference, or_else, first_difference, unequal, data_clash, unless_clash}
use Rattle.sal_reasm.specs.SlotTable.{PartialFrame, SlotTable, if_number}

-- the frame of this fragment, of which nothing came yet
abbrev pub opened : FragmentFields → PartialFrame
opened e = record { number = e.number; source = e.source; target = e.target; parts = replicate e.count None }

-- with the data of this fragment
abbrev pub filled : PartialFrame → FragmentFields → PartialFrame
filled f e = record f { parts = set f.parts e.index (Some e.bytes) }

-- the frame after this answer, where the part was missing
abbrev pub filled_after : Result Offered Memory → PartialFrame → FragmentFields → PartialFrame
filled_after (Err m) f e = f
filled_after (Ok answer) f e = filled f e

-- the data of a part, of a missing one nothing
abbrev pub data_of : Option (List ℕ) → List ℕ
data_of part = unwrap_or part []

-- how many parts are missing
abbrev pub gaps : List (Option (List ℕ)) → ℕ
gaps [] = 0
gaps (None ∷ parts) = suc (gaps parts)
gaps (Some bytes ∷ parts) = gaps parts

-- a part that came has at most 1,200 bytes
abbrev pub IsShort : Option (List ℕ) → Type 0
IsShort None = Unit {0}
IsShort (Some bytes) = length bytes ≤ MAX_DATA

-- where a fragment differs from a frame
abbrev pub clash_with_frame : PartialFrame → FragmentFields → Option Difference
clash_with_frame f e =
    or_else (first_difference Source 0 f.source e.source)
    (or_else (first_difference Target 0 f.target e.target)
    (or_else (unequal Count (length f.parts) e.count)
    (data_clash (get_or f.parts e.index None) e.bytes)))

-- the same of what stands there
abbrev pub clash_with_slot : Option PartialFrame → FragmentFields → Option Difference
clash_with_slot None e = None
clash_with_slot (Some f) e = clash_with_frame f e

-- what is answered where the frame is this one now
abbrev pub answer_of : PartialFrame → Offered
answer_of f = if list_all is_some f.parts then Complete (flat_map data_of f.parts) else Kept

-- the frame with the data of this fragment
abbrev pub frame_then : Option PartialFrame → FragmentFields → PartialFrame
frame_then None e = filled (opened e) e
frame_then (Some f) e = filled f e

-- what is answered to a fragment where this is kept of its frame
abbrev pub answered : Option PartialFrame → FragmentFields → Offered
answered None e = answer_of (filled (opened e) e)
answered (Some f) e = unless_clash (clash_with_frame f e) (if is_some (get_or f.parts e.index None) then Repeat else answer_of (filled f e))

-- the frame after this answer to a fragment of it
abbrev pub frame_after : Result Offered Memory → FragmentFields → PartialFrame → PartialFrame
frame_after (Err m) e f = f
frame_after (Ok Stale) e f = f
frame_after (Ok (Clash field kept new)) e f = f
frame_after (Ok Repeat) e f = f
frame_after (Ok (Complete bytes)) e f = filled f e
frame_after (Ok Kept) e f = filled f e

-- what stands at the fragment's place after this answer
abbrev pub place_after : Result Offered Memory → FragmentFields → Option PartialFrame → Option PartialFrame
place_after (Err m) e there = there
place_after (Ok Stale) e there = there
place_after (Ok (Clash field kept new)) e there = there
place_after (Ok Repeat) e there = there
place_after (Ok (Complete bytes)) e there = Some (frame_then (if_number e.number there) e)
place_after (Ok Kept) e there = Some (frame_then (if_number e.number there) e)

-- a frame, unless its number is below the floor
abbrev pub unless_below : ℕ → Option PartialFrame → Option PartialFrame
unless_below floor None = None
unless_below floor (Some f) = if nat_le floor f.number then Some f else None

-- a floor that is higher, and what stands at or above it
abbrev pub slots_raised : ℕ → SlotTable → SlotTable
slots_raised floor w = if nat_lt w.floor floor then record { floor = floor; frames = map (unless_below floor) w.frames } else w

-- the window with what stands at the fragment's place after this answer
abbrev pub put_after : Result Offered Memory → FragmentFields → SlotTable → SlotTable
put_after answer e w = record { floor = w.floor; frames = set w.frames (e.number % WINDOW) (place_after answer e (get_or w.frames (e.number % WINDOW) None)) }

-- the floor after this answer
abbrev pub raised_after : Offered → ℕ → SlotTable → SlotTable
raised_after Stale floor w = w
raised_after (Clash field kept new) floor w = w
raised_after Repeat floor w = slots_raised floor w
raised_after (Complete bytes) floor w = slots_raised floor w
raised_after Kept floor w = slots_raised floor w

-- the window after this answer
abbrev pub slots_after : Result Offered Memory → FragmentFields → SlotTable → SlotTable
slots_after (Err m) e w = w
slots_after (Ok answer) e w = raised_after answer e.floor (put_after (Ok answer) e w)
