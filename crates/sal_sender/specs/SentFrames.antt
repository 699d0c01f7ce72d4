-- The frames sent at or above the floor, the newest first, each with whether its state was acknowledged.
use Rattle.std.specs.Prelude.{ℕ, ◌+◌, ◌-◌, Bool, true, false, ◌&&◌, ◌||◌, List, [], ◌∷◌, map, filter, ◌==◌, nat_lt, nat_le}
use Rattle.std.specs.List.{list_any}
use Rattle.sal_base.specs.declared.name.Name.{Name}
use Rattle.sal_sender.specs.declared.choice.Choice.{Choice}
use Rattle.sal_sender.specs.declared.sent_frame.SentFrame.{SentFrame}
use Rattle.sal_sender.specs.Past.{floor_of}

-- a choice, with whether its frame number is among these
abbrev pub sent_frame_of : List ℕ → Choice → SentFrame
sent_frame_of acked choice = record { choice = choice; is_acknowledged = list_any (λ m. m == choice.number) acked }

-- the choices from a floor on
abbrev pub choices_from : ℕ → List Choice → List Choice
choices_from floor chosen = filter (λ c. nat_le floor c.number) chosen

-- the choices from the floor on, each with whether its frame number is among these
abbrev pub sent_frames_of : List ℕ → List Choice → List SentFrame
sent_frames_of acked chosen = map (sent_frame_of acked) (choices_from (floor_of chosen) chosen)

-- of a frame number, its source, and so on, the newest acknowledged one, or 0
unfoldable pub safe_in : List SentFrame → ℕ → ℕ
safe_in [] n = 0
safe_in (l ∷ older) n =
    elim (n == l.choice.number) [
      | true ↦ elim l.is_acknowledged [ true ↦ n | false ↦ safe_in older l.choice.source ]
      | false ↦ safe_in older n
    ]

-- the greatest serial heard is at least three above the last one of this choice
abbrev pub overtaken : ℕ → Choice → Bool
overtaken heard choice = nat_le (((choice.first_serial + choice.count) - 1) + 3) heard

-- whether one of a frame number, its source, and so on stands above the safe one and was overtaken
unfoldable pub lost_in : ℕ → ℕ → List SentFrame → ℕ → Bool
lost_in safe heard [] n = false
lost_in safe heard (l ∷ older) n =
    elim (n == l.choice.number) [
      | true ↦ (nat_lt safe n && overtaken heard l.choice) || lost_in safe heard older l.choice.source
      | false ↦ lost_in safe heard older n
    ]

-- whether the state of this frame number was acknowledged
abbrev pub is_acknowledged_in : List SentFrame → ℕ → Bool
is_acknowledged_in sent_frames n = list_any (λ l. l.choice.number == n && l.is_acknowledged) sent_frames

-- the frame, acknowledged too where it is among these
abbrev pub acknowledged_by : List (ℕ × Name) → SentFrame → SentFrame
acknowledged_by held l = record { choice = l.choice; is_acknowledged = l.is_acknowledged || list_any (λ h. h.0 == l.choice.number) held }
