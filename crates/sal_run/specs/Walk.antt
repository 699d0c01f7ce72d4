-- The numbers that aren't marked, one after the other.
use Rattle.std.specs.Prelude.{◌≡◌, ℕ, zero, suc, ◌+◌, ◌-◌, ◌≤◌, true, List, [], ◌∷◌, if◌then◌else◌}
use Rattle.sal_codec.specs.Coding.{Coding}
use Rattle.sal_sender.specs.OneThread.{Session}
use Rattle.sal_world.specs.Script.{Run, each}
use Rattle.sal_run.specs.Marks.{Marks, is_marked}

-- the first n numbers after this one, but for those that are marked
abbrev pub unmarked : Marks → ℕ → ℕ → List ℕ
unmarked m at zero = []
unmarked m at (suc n) = if is_marked m (at + 1) then unmarked m (at + 1) n else (at + 1) ∷ unmarked m (at + 1) n

-- a step of this number, unless it is marked
abbrev pub unless_marked : {R : Type 0} → Marks → (ℕ → R → R) → ℕ → R → R
unless_marked m step k r = if is_marked m k then r else step k r

-- a walk over the numbers up to the last one stands after this number: the steps that are left lead to the target
pub record Walk {S : Type 0} (codec : Coding S) (session : Session) (step : ℕ → Run S → Run S) (last at : ℕ) (m : Marks) (now target : Run S) : Type 0 where
  pub onward : each codec session step (unmarked m at (last - at)) now ≡ target
  pub below : (k : ℕ) → 1 ≤ k → k ≤ at → is_marked m k ≡ true
