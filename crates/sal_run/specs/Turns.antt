-- One job, and one frame, of those that wait.
use Rattle.std.specs.Prelude.{ℕ, Bool, true, false, ◌&&◌, not, Option, Some, None, is_some, if◌then◌else◌}
use Rattle.sal_base.specs.declared.picture.Picture.{Picture}
use Rattle.sal_codec.specs.Coding.{Coding}
use Rattle.sal_sender.specs.declared.choice.JobRole.{JobRole}
use Rattle.sal_sender.specs.declared.choice.JobRole.TheVariants.{Coarse, Spare, Fine}
use Rattle.sal_sender.specs.Jobs.{Job}
use Rattle.sal_sender.specs.OneThread.{Session}
use Rattle.sal_sender.specs.Choosing.{is_fine, first_in}
use Rattle.sal_sender.specs.Answers.{waiting_jobs}
use Rattle.sal_receiver.specs.Ready.{ready_answer}
use Rattle.sal_world.specs.World.{TakesJob, Reports, TakesReady, Decodes}
use Rattle.sal_world.specs.Script.{Run, gives, with_event, next_picture, down_all, up_all, wait}

abbrev pub is_fine_role : JobRole → Bool
is_fine_role Coarse = false
is_fine_role Spare = false
is_fine_role Fine = true

-- the fine job of a picture comes after the choice, where that is wanted
abbrev pub is_late : Bool → Job → Bool
is_late late job = late && is_fine job

-- whether a job waits that comes before the choice
abbrev pub may_run : Bool → Option Job → Bool
may_run late None = false
may_run late (Some job) = not (is_late late job)

abbrev pub is_job : {S : Type 0} → Bool → Run S → Bool
is_job late r = may_run late (first_in (waiting_jobs r.world.sender))

abbrev pub is_frame : {S : Type 0} → Coding S → Run S → Bool
is_frame codec r = is_some (ready_answer codec r.world.receiver)

module _ {S : Type 0} (codec : Coding S) (session : Session) where
  abbrev pub with_job : Bool → Run S → Option Job → Run S
  with_job late r None = r
  with_job late r (Some job) = if is_late late job then r else with_event codec session (Reports job.id (gives codec session r job)) (with_event codec session TakesJob r)

  -- the job that waits is taken, run and reported, unless it comes late
  abbrev pub one_job : Bool → Run S → Run S
  one_job late r = with_job late r (first_in (waiting_jobs r.world.sender))

  abbrev pub with_frame : Run S → Option ℕ → Run S
  with_frame r None = with_event codec session TakesReady r
  with_frame r (Some n) = with_event codec session (Decodes n true) (with_event codec session TakesReady r)

  -- the frame that is ready is decoded
  abbrev pub one_frame : Run S → Run S
  one_frame r = with_frame r (ready_answer codec r.world.receiver)

  -- a picture is sent, and all that comes of it is delivered
  abbrev pub exchange : Picture → Run S → Run S
  exchange picture r = up_all codec session (down_all codec session (next_picture codec session (is_late false) picture r))

  -- after that so much time passes
  abbrev pub one_turn : ℕ → Picture → Run S → Run S
  one_turn time picture r = wait codec session time (exchange picture r)
