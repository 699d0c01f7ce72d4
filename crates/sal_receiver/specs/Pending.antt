-- Complete frames whose numbers aren't decided, in rising order of numbers.
use Rattle.std.specs.Prelude.{ℕ, zero, suc, ◌≤◌, ◌&&◌, Bool, true, false, List, [], ◌∷◌, map, filter, find, Option, Some, None, ◌==◌, nat_lt, nat_le, if◌then◌else◌}
use Rattle.std.specs.List.{position_or_len}
use Rattle.std.specs.Arc.{arc_value}
use Rattle.std.specs.declared.sync.Arc.{Arc}
use Rattle.sal_base.specs.Names.{same}
use Rattle.sal_receiver.specs.declared.pending_frame.Stage.{Stage}
use Rattle.sal_receiver.specs.declared.pending_frame.Stage.TheVariants as stages
use Rattle.sal_receiver.specs.declared.pending_frame.PendingFrame.{PendingFrame}
use Rattle.sal_receiver.specs.declared.pending_frame.DecodeTask.{DecodeTask}

-- shares seen as what they share
abbrev pub stage_unshared : {S Z : Type 0} → Stage (Arc S Z) → Stage S
stage_unshared (stages.Complete bytes) = stages.Complete bytes
stage_unshared (stages.Ready source bytes) = stages.Ready (arc_value source) bytes
stage_unshared stages.Decoding = stages.Decoding

abbrev pub frame_unshared : {S Z : Type 0} → PendingFrame (Arc S Z) → PendingFrame S
frame_unshared p = record { number = p.number; source = p.source; target = p.target; stage = stage_unshared p.stage }

-- where a state of its source's name is held now, a whole frame waits to be handed out
abbrev pub fed_stage : {T : Type 0} → Bool → T → Stage T → Stage T
fed_stage named state (stages.Complete bytes) = if named then stages.Ready state bytes else stages.Complete bytes
fed_stage named state (stages.Ready source bytes) = stages.Ready source bytes
fed_stage named state stages.Decoding = stages.Decoding

abbrev pub is_ready_stage : {T : Type 0} → Stage T → Bool
is_ready_stage (stages.Complete bytes) = false
is_ready_stage (stages.Ready source bytes) = true
is_ready_stage stages.Decoding = false

abbrev pub is_out_stage : {T : Type 0} → Stage T → Bool
is_out_stage (stages.Complete bytes) = false
is_out_stage (stages.Ready source bytes) = false
is_out_stage stages.Decoding = true

-- whether a floor leaves a frame: below it a whole one doesn't become ready any more
abbrev pub is_left : {T : Type 0} → ℕ → ℕ → Stage T → Bool
is_left floor n (stages.Complete bytes) = nat_le floor n
is_left floor n (stages.Ready source bytes) = true
is_left floor n stages.Decoding = true

module _ {T : Type 0} where
  -- the frame of this number
  abbrev pub at : ℕ → List (PendingFrame T) → Option (PendingFrame T)
  at n frames = find (λ p. p.number == n) frames

  abbrev pub is_out_at : Option (PendingFrame T) → Bool
  is_out_at None = false
  is_out_at (Some p) = is_out_stage p.stage

  -- what is handed out of a frame that waits
  abbrev pub stage_task : ℕ → Rattle.sal_base.specs.declared.name.Name.Name → Stage T → Option (DecodeTask T)
  stage_task n target (stages.Complete bytes) = None
  stage_task n target (stages.Ready source bytes) = Some (record { number = n; target = target; source = source; bytes = bytes })
  stage_task n target stages.Decoding = None

  abbrev pub task_of : PendingFrame T → Option (DecodeTask T)
  task_of p = stage_task p.number p.target p.stage

  abbrev pub task_in : Option (PendingFrame T) → Option (DecodeTask T)
  task_in None = None
  task_in (Some p) = task_of p

  abbrev pub stage_out : Stage T → Stage T
  stage_out (stages.Complete bytes) = stages.Complete bytes
  stage_out (stages.Ready source bytes) = stages.Decoding
  stage_out stages.Decoding = stages.Decoding

  abbrev pub handed_out : PendingFrame T → PendingFrame T
  handed_out p = record p { stage = stage_out p.stage }

  -- how many stand before the first one with a higher number
  abbrev pub place_in : ℕ → List (PendingFrame T) → ℕ
  place_in n frames = position_or_len (λ p. nat_lt n p.number) frames

  -- put at its place
  abbrev pub frame_inserted : PendingFrame T → List (PendingFrame T) → List (PendingFrame T)
  frame_inserted p [] = p ∷ []
  frame_inserted p (first ∷ rest) = if nat_lt p.number first.number then p ∷ first ∷ rest else first ∷ frame_inserted p rest

  -- the frame of this number is taken out, or stands at another stage
  abbrev pub without : ℕ → List (PendingFrame T) → List (PendingFrame T)
  without n [] = []
  without n (p ∷ rest) = if p.number == n then rest else p ∷ without n rest

  abbrev pub restaged : ℕ → Stage T → List (PendingFrame T) → List (PendingFrame T)
  restaged n stage [] = []
  restaged n stage (p ∷ rest) = if p.number == n then record p { stage = stage } ∷ rest else p ∷ restaged n stage rest

  abbrev pub left_from : ℕ → List (PendingFrame T) → List (PendingFrame T)
  left_from floor frames = filter (λ p. is_left floor p.number p.stage) frames

  abbrev pub fed_one : List ℕ → T → PendingFrame T → PendingFrame T
  fed_one name state p = record p { stage = fed_stage (same name p.source.0) state p.stage }

  -- all whole frames of this source wait
  abbrev pub fed : List ℕ → T → List (PendingFrame T) → List (PendingFrame T)
  fed name state frames = map (fed_one name state) frames

  -- how many of these are whole and have this source
  abbrev pub is_whole : Stage T → Bool
  is_whole (stages.Complete bytes) = true
  is_whole (stages.Ready source bytes) = false
  is_whole stages.Decoding = false

  abbrev pub wants : List ℕ → PendingFrame T → Bool
  wants name p = is_whole p.stage && same name p.source.0

  abbrev pub wanting : List ℕ → List (PendingFrame T) → ℕ
  wanting name [] = zero
  wanting name (p ∷ rest) = if wants name p then suc (wanting name rest) else wanting name rest

  -- the least number that waits
  abbrev pub first_ready : List (PendingFrame T) → Option (PendingFrame T)
  first_ready frames = find (λ p. is_ready_stage p.stage) frames

  -- it is handed out
  abbrev pub out_first : List (PendingFrame T) → List (PendingFrame T)
  out_first [] = []
  out_first (p ∷ rest) = if is_ready_stage p.stage then handed_out p ∷ rest else p ∷ out_first rest

  -- numbers rise, from at least this one
  abbrev pub Rises : ℕ → List (PendingFrame T) → Type 0
  Rises least [] = Unit {0}
  Rises least (p ∷ rest) = (least ≤ p.number) × Rises (suc p.number) rest
