-- Which fragments the slots stand for.
use Rattle.std.specs.Prelude.{◌≡◌, ℕ, ◌+◌, ◌≤◌, List, [], ◌∷◌, length}
use Rattle.sal_base.specs.declared.limits.TheConstants.{WINDOW}
use Rattle.sal_wire.specs.Fields.{FragmentFields}
use Rattle.sal_reasm.specs.Complete.{floor_of, fragments_of}
use Rattle.sal_reasm.specs.SlotTable.{SlotTable, frame_at, partial_frame}

-- the names of the newest have sixteen bytes
abbrev pub AreNamed : List FragmentFields → Type 0
AreNamed [] = Unit {0}
AreNamed (e ∷ before) = (length e.source ≡ 16) × (length e.target ≡ 16)

-- the slots keep the floor of these fragments, and of each frame number at or above it what its fragments say
pub record SlotsStand (w : SlotTable) (taken : List FragmentFields) : Type 0 where
  pub floor : w.floor ≡ floor_of taken
  pub frames : (n : ℕ) → w.floor ≤ n → frame_at n w.frames ≡ partial_frame (fragments_of n taken)
  pub near : (n : ℕ) → w.floor + WINDOW ≤ n → fragments_of n taken ≡ []
  pub named : (n : ℕ) → AreNamed (fragments_of n taken)
