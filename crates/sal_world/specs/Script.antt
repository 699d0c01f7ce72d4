-- What the lines of a script make of the world.
use Rattle.std.specs.Prelude.{ℕ, zero, suc, ◌+◌, ◌-◌, ◌*◌, ◌/◌, ◌^◌, min, Bool, true, false, ◌&&◌, not, List, [], ◌∷◌, length, map, reverse, filter, Option, Some, None, option_and_then, ◌==◌, nat_le, if◌then◌else◌}
use Rattle.std.specs.List.{list_any}
use Rattle.sal_base.specs.declared.picture.Picture.{Picture}
use Rattle.sal_codec.specs.Coding.{Coding}
use Rattle.sal_wire.specs.Fragmentation.{below}
use Rattle.sal_sender.specs.declared.outcome.Gave.{Gave}
use Rattle.sal_sender.specs.JobWork.{encoded, given}
use Rattle.sal_sender.specs.Stands.{work_of}
use Rattle.sal_sender.specs.Jobs.{Job}
use Rattle.sal_sender.specs.OneThread.{Session}
use Rattle.sal_sender.specs.Choosing.{is_fine, first_in}
use Rattle.sal_sender.specs.Answers.{waiting_jobs}
use Rattle.sal_receiver.specs.Past.{shown}
use Rattle.sal_receiver.specs.Ready.{ready_answer}
use Rattle.sal_script.specs.declared.line.ScriptLine.{ScriptLine}
use Rattle.sal_script.specs.declared.line.ScriptLine.TheVariants.{Next as NextLine, NextLate, Down as DownLine, Up as UpLine, DownAll, UpAll, Wait, Rest}
use Rattle.sal_world.specs.World.{WorldEvent, Starts, TakesJob, Reports, Chooses, Delivers, Hears, TakesReady, Decodes, Passes, WorldPast, start, sent, acks, happens}

-- a run so far: its events with the newest first, the world that they make, and the pictures that are left
pub record Run (S : Type 0) : Type 0 where
  pub events : List WorldEvent
  pub world : WorldPast S
  pub left : List Picture

abbrev pub downs_in : WorldEvent → ℕ → Bool
downs_in (Delivers which) k = which == k
downs_in _ k = false

abbrev pub ups_in : WorldEvent → ℕ → Bool
ups_in (Hears which) k = which == k
ups_in _ k = false

-- the numbers 1 to n that no event before named
abbrev pub unnamed : (WorldEvent → ℕ → Bool) → List WorldEvent → ℕ → List ℕ
unnamed names events n = filter (λ k. not (list_any (λ e. names e k) events)) (map (λ k. k + 1) (below n))

-- k numbers one of this many
abbrev pub is_number : ℕ → ℕ → Bool
is_number k last = nat_le 1 k && nat_le k last

abbrev pub begun : {S : Type 0} → List Picture → Run S
begun pictures = record { events = []; world = start; left = pictures }

module _ {S : Type 0} (codec : Coding S) (session : Session) where
  abbrev pub with_event : WorldEvent → Run S → Run S
  with_event event r = record { events = event ∷ r.events; world = happens codec session r.world event; left = r.left }

  -- what a job gives where there is memory: what the codec makes of its work
  abbrev pub gives : Run S → Job → Gave
  gives r job = given (encoded codec (work_of codec r.world.sender job))

  -- jobs are taken, run and reported in their order, at most so many, up to the first that is late
  unfoldable pub run_jobs : (Job → Bool) → ℕ → Run S → Run S
  run_jobs is_late zero r = r
  run_jobs is_late (suc n) r = elim (first_in (waiting_jobs r.world.sender)) [
    | None ↦ r
    | Some job ↦ if is_late job then r else run_jobs is_late n (with_event (Reports job.id (gives r job)) (with_event TakesJob r))
  ]

  -- a picture has at most three jobs
  abbrev pub most_jobs : ℕ
  most_jobs = 3

  -- all jobs run, the late ones after the choice
  abbrev pub chosen_after : (Job → Bool) → Run S → Run S
  chosen_after is_late r = run_jobs (λ job. false) most_jobs (with_event Chooses (run_jobs is_late most_jobs r))

  -- a picture is started, encoded and chosen
  abbrev pub next_picture : (Job → Bool) → Picture → Run S → Run S
  next_picture is_late picture r = chosen_after is_late (with_event (Starts picture) r)

  -- each ready frame is decoded, until none is ready; there are at most so many
  unfoldable pub drained : ℕ → Run S → Run S
  drained zero r = with_event TakesReady r
  drained (suc n) r = elim (ready_answer codec r.world.receiver) [
    | None ↦ with_event TakesReady r
    | Some number ↦ drained n (with_event (Decodes number true) (with_event TakesReady r))
  ]

  abbrev pub down : ℕ → Run S → Run S
  down k r = decode_all (with_event (Delivers k) r)
    where
      decode_all : Run S → Run S
      decode_all r = drained (length (acks r.world)) r

  abbrev pub up : ℕ → Run S → Run S
  up k r = with_event (Hears k) r

  abbrev pub each : (ℕ → Run S → Run S) → List ℕ → Run S → Run S
  each step [] r = r
  each step (k ∷ more) r = each step more (step k r)

  abbrev pub down_all : Run S → Run S
  down_all r = each down (unnamed downs_in r.events (length (sent r.world))) r

  abbrev pub up_all : Run S → Run S
  up_all r = each up (unnamed ups_in r.events (length (acks r.world))) r

  abbrev pub wait : ℕ → Run S → Run S
  wait time r = with_event (Passes (min (2 ^ 64 - 1) (r.world.moment + time))) r

  -- each picture left is started, and all that came of it is delivered, one period after the other
  abbrev pub rest : List Picture → Run S → Run S
  rest [] r = r
  rest (picture ∷ more) r =
      rest more (wait ((1000000 * session.head.rate.1) / session.head.rate.0) (up_all (down_all (next_picture (λ job. false) picture r))))

  abbrev pub next_line : (Job → Bool) → List Picture → Run S → Option (Run S)
  next_line is_late [] r = None
  next_line is_late (picture ∷ more) r = Some (next_picture is_late picture (record r { left = more }))

  -- the run after a line, or None where it needs a picture and none is left, or names an unsent number
  abbrev pub line : ScriptLine → Run S → Option (Run S)
  line NextLine r = next_line (λ job. false) r.left r
  line NextLate r = next_line is_fine r.left r
  line (DownLine k) r = if is_number k (length (sent r.world)) then Some (down k r) else None
  line (UpLine k) r = if is_number k (length (acks r.world)) then Some (up k r) else None
  line DownAll r = Some (down_all r)
  line UpAll r = Some (up_all r)
  line (Wait time) r = Some (wait time r)
  line Rest r = Some (rest r.left (record r { left = [] }))

  -- the run after these lines
  abbrev pub played : List ScriptLine → Option (Run S) → Option (Run S)
  played [] r = r
  played (next ∷ more) r = played more (option_and_then (line next) r)

  -- the pictures shown, in order, where these pictures are sent under these lines
  abbrev pub pictures_shown : List Picture → List ScriptLine → Option (List Picture)
  pictures_shown pictures lines = option_and_then (λ r. Some (map (λ s. s.1) (reverse (shown r.world.receiver)))) (played lines (Some (begun pictures)))
