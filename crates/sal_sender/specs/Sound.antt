-- What holds of the choices and jobs of every list of calls with their answers.
use Rattle.std.specs.Prelude.{◌≡◌, ◌⊎◌, ℕ, ◌+◌, ◌≤◌, List, [], ◌∷◌, length}
use Rattle.sal_base.specs.Lists.{Each}
use Rattle.sal_sender.specs.declared.choice.Choice.{Choice}
use Rattle.sal_sender.specs.Past.{Past, choices, floor_of, floor, tip, opened}
use Rattle.sal_sender.specs.Answers.{jobs_after}

-- a source is the initial state or stands at or above a floor
abbrev pub IsFrom : ℕ → ℕ → Type 0
IsFrom floor source = (source ≡ 0) ⊎ (floor ≤ source)

-- the floor of a choice is its own frame number where its source is 0, else at most its source
abbrev pub HasFloor : Choice → Type 0
HasFloor choice = ((choice.source ≡ 0) × (choice.floor ≡ choice.number)) ⊎ ((1 ≤ choice.source) × (choice.floor ≤ choice.source))

-- frames are numbered from 1, sources are older, floors never fall, the window is kept
pub record Follows (older : List Choice) (choice : Choice) : Type 0 where
  pub number : choice.number ≡ length older + 1
  pub source : choice.source ≤ length older
  pub own_floor : HasFloor choice
  pub rising : floor_of older ≤ choice.floor
  pub window : choice.number ≤ choice.floor + 15

abbrev pub AreChained : List Choice → Type 0
AreChained [] = Unit {0}
AreChained (choice ∷ older) = Follows older choice × AreChained older

-- the choices are chained, and each open job is from the initial state or one that is kept
pub record IsSound (past : Past) : Type 0 where
  pub chained : AreChained (choices past)
  pub jobs_from : Each (λ job. IsFrom (floor past) job.source × (job.source ≤ tip past)) (jobs_after (opened past))
