-- What the slots keep: a floor, and the frames with a frame number at or above it, at sixteen places.
use Rattle.std.specs.Prelude.{ℕ, ◌%◌, List, [], ◌∷◌, map, replicate, get_or, Option, Some, None, ◌==◌, if◌then◌else◌}
use Rattle.sal_base.specs.declared.limits.TheConstants.{WINDOW}
use Rattle.sal_wire.specs.Fields.{FragmentFields}
use Rattle.sal_wire.specs.Fragmentation.{below}
use Rattle.sal_reasm.specs.Complete.{data_at}

-- a frame of which fragments came: the fields that its fragments share, and the data that came of each index
pub record PartialFrame : Type 0 where
  pub number : ℕ
  pub source : List ℕ
  pub target : List ℕ
  pub parts : List (Option (List ℕ))

-- the floor, and what stands at each place
pub record SlotTable : Type 0 where
  pub floor : ℕ
  pub frames : List (Option PartialFrame)

-- no frames
abbrev pub empty_slots : SlotTable
empty_slots = record { floor = 1; frames = replicate WINDOW None }

-- a frame, if it has this number
abbrev pub if_number : ℕ → Option PartialFrame → Option PartialFrame
if_number n None = None
if_number n (Some f) = if f.number == n then Some f else None

-- the frame with this number; only one of sixteen numbers in a row has its place
abbrev pub frame_at : ℕ → List (Option PartialFrame) → Option PartialFrame
frame_at n frames = if_number n (get_or frames (n % WINDOW) None)

-- what this fragment and those before it say of their frame
abbrev pub partial_frame_with : FragmentFields → List FragmentFields → PartialFrame
partial_frame_with e before = record { number = e.number; source = e.source; target = e.target; parts = map (data_at (e ∷ before)) (below e.count) }

-- what is kept of the fragments of one number
abbrev pub partial_frame : List FragmentFields → Option PartialFrame
partial_frame [] = None
partial_frame (e ∷ before) = Some (partial_frame_with e before)
