-- The jobs of the next picture, in the words of what the sender keeps.
use Rattle.std.specs.Prelude.{ℕ, ◌+◌, ◌-◌, min, max, false, ◌&&◌, not, ◌++◌, replicate, Option, Some, None, ◌==◌, if◌then◌else◌}
use Rattle.sal_base.specs.declared.limits.TheConstants.{WINDOW}
use Rattle.sal_base.specs.declared.picture.Picture.{Picture}
use Rattle.sal_base.specs.declared.coding.Kind.{Kind}
use Rattle.sal_base.specs.declared.coding.Kind.TheVariants.{Key, Inter}
use Rattle.sal_codec.specs.Coding.{Coding}
use Rattle.sal_chain.specs.declared.stored_state.StoredState.{StoredState}
use Rattle.sal_chain.specs.Held.{with_number}
use Rattle.sal_sender.specs.declared.choice.JobRole.{JobRole}
use Rattle.sal_sender.specs.declared.choice.JobRole.TheVariants.{Coarse, Spare, Fine}
use Rattle.sal_sender.specs.declared.job_plan.JobPlan.{JobPlan}
use Rattle.sal_sender.specs.declared.open_picture.Candidate.{Candidate}
use Rattle.sal_sender.specs.declared.open_picture.OpenPicture.{OpenPicture}
use Rattle.sal_sender.specs.declared.open_picture.JobQueue.{JobQueue}
use Rattle.sal_sender.specs.Jobs.{needs_spare}
use Rattle.sal_sender.specs.SentFrames.{safe_in, lost_in}
use Rattle.sal_sender.specs.JobWork.{JobWork}
use Rattle.sal_sender.specs.Machine.{Machine}

-- the newest acknowledged frame number on the tip's chain, or 0
abbrev pub safe_of : {S : Type 0} → Machine S → ℕ
safe_of m = safe_in m.sent_frames m.tip

-- the frame number of the state to go on from
abbrev pub base_of : {S : Type 0} → Machine S → ℕ
base_of m =
    if not (m.tip == 0) && (((m.tip - m.floor) + 1) == WINDOW) then 0
    else if lost_in (safe_of m) m.acks.heard m.sent_frames m.tip then safe_of m
    else m.tip

-- what decides the next picture's jobs
abbrev pub plan_of : {S : Type 0} → Machine S → JobPlan
plan_of m = record {
  first = m.last_job + 1;
  base = base_of m;
  safe = safe_of m;
  has_spare = needs_spare (base_of m) (safe_of m) m.tip;
  from_tip = base_of m == m.tip;
  q = m.q;
}

-- the id of the fine job, how many jobs there are, and the coarse quantiser index
abbrev pub fine_id : JobPlan → ℕ
fine_id p = if p.has_spare then p.first + 2 else p.first + 1

abbrev pub job_count : JobPlan → ℕ
job_count p = if p.has_spare then 3 else 2

abbrev pub coarse_q : JobPlan → ℕ
coarse_q p = min 127 (p.q + 4)

-- a candidate without a report
abbrev pub unreported : {R : Type 0} → ℕ → JobRole → ℕ → ℕ → Candidate R
unreported id role source q = record { id = id; role = role; source = source; q = q; report = None }

-- the open picture with the planned jobs, none of them reported
abbrev pub open_picture_of : {R : Type 0} → JobPlan → OpenPicture R
open_picture_of p = record {
  from_tip = p.from_tip;
  coarse = unreported p.first Coarse p.base (coarse_q p);
  spare = if p.has_spare then Some (unreported (p.first + 1) Spare p.safe (coarse_q p)) else None;
  fine = unreported (fine_id p) Fine p.base (p.q - 4);
}

-- how a picture is encoded from what is found under a frame number
abbrev pub kind_from : {S : Type 0} → Option (StoredState S) → Kind
kind_from None = Key
kind_from (Some k) = Inter

abbrev pub state_from : {S : Type 0} → Coding S → Option (StoredState S) → S
state_from codec None = codec.initial
state_from codec (Some k) = k.state

-- the work of a job from the state of this frame number, or the initial one
abbrev pub work_from : {S : Type 0} → Coding S → Machine S → Picture → ℕ → JobRole → ℕ → ℕ → JobWork S
work_from codec m samples id role source q = record {
  id = id;
  picture = m.pictures + 1;
  role = role;
  q = q;
  kind = kind_from (with_number source m.store.kept);
  source = state_from codec (with_number source m.store.kept);
  samples = samples;
}

-- the jobs, none of them handed out
abbrev pub queue_of : {S : Type 0} → Coding S → Machine S → Picture → JobPlan → JobQueue (JobWork S)
queue_of codec m samples p = record {
  coarse = Some (work_from codec m samples p.first Coarse p.base (coarse_q p));
  spare = if p.has_spare then Some (work_from codec m samples (p.first + 1) Spare p.safe (coarse_q p)) else None;
  fine = Some (work_from codec m samples (fine_id p) Fine p.base (p.q - 4));
}

-- what the sender keeps after a picture was started
abbrev pub after_start : {S : Type 0} → Coding S → Machine S → Picture → ℕ → Machine S
after_start codec m samples moment = record m {
  acks = record m.acks { moment = max m.acks.moment moment };
  open_picture = Some (open_picture_of (plan_of m));
  waiting = queue_of codec m samples (plan_of m);
  outstanding = m.outstanding ++ replicate (job_count (plan_of m)) false;
  pictures = m.pictures + 1;
  last_job = m.last_job + job_count (plan_of m);
}
