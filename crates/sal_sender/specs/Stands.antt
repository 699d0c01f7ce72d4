-- How what a sender keeps stands for the calls that it was given so far.
use Rattle.std.specs.Prelude.{◌≡◌, ℕ, ◌+◌, Bool, ◌&&◌, ◌<◌, List, [], ◌∷◌, ◌++◌, length, map, find, Option, Some, None, ◌==◌, nat_le, if◌then◌else◌}
use Rattle.std.specs.Option.{option_map}
use Rattle.sal_base.specs.Lists.{Each}
use Rattle.sal_base.specs.declared.picture.Picture.{Picture}
use Rattle.sal_codec.specs.Coding.{Coding}
use Rattle.sal_chain.specs.declared.stored_state.StoredState.{StoredState}
use Rattle.sal_chain.specs.Held.{with_number}
use Rattle.sal_sender.specs.declared.outcome.Gave.{Gave}
use Rattle.sal_sender.specs.declared.choice.Choice.{Choice}
use Rattle.sal_sender.specs.declared.open_picture.Candidate.{Candidate}
use Rattle.sal_sender.specs.declared.open_picture.OpenPicture.{OpenPicture}
use Rattle.sal_sender.specs.declared.answers.Next.TheVariants.{Started}
use Rattle.sal_sender.specs.Past.{Past, NextPicture, choices, pictures, last_job, now, tip, tip_of, floor_of, sent, quantiser, opened}
use Rattle.sal_chain.specs.Held.{name_in}
use Rattle.sal_sender.specs.Chain.{picture_at, state}
use Rattle.sal_sender.specs.Acks.{acknowledged, heard, average, heard_at, safe}
use Rattle.sal_sender.specs.Jobs.{Job, jobs, kind_of, base, needs_spare, coarse_job, spare_job, fine_job}
use Rattle.sal_sender.specs.Choosing.{reported, first_some}
use Rattle.sal_sender.specs.Answers.{jobs_after, waiting_jobs, is_outstanding}
use Rattle.sal_sender.specs.Promises.{IsLegalSender}
use Rattle.sal_sender.specs.SentFrames.{sent_frames_of}
use Rattle.sal_sender.specs.Candidates.{queued}
use Rattle.sal_sender.specs.JobWork.{JobWork, JobReport}
use Rattle.sal_sender.specs.Machine.{Machine, flag}

-- all that a sender's answers depend on
pub record Summary : Type 0 where
  pub shot : List Picture
  pub chosen : List Choice
  pub acknowledged : List ℕ
  pub heard : ℕ
  pub average : ℕ
  pub heard_at : ℕ
  pub now : ℕ
  pub sent : ℕ
  pub last_job : ℕ
  pub q : ℕ
  pub opened : Option Past
  pub reported : ℕ → Option Gave
  pub waiting : List Job
  pub is_outstanding : ℕ → Bool

abbrev pub summary : Past → Summary
summary past = record {
  shot = pictures past;
  chosen = choices past;
  acknowledged = acknowledged past;
  heard = heard past;
  average = average past;
  heard_at = heard_at past;
  now = now past;
  sent = sent past;
  last_job = last_job past;
  q = quantiser past;
  opened = opened past;
  reported = reported past;
  waiting = waiting_jobs past;
  is_outstanding = is_outstanding past;
}

module _ {S : Type 0} (codec : Coding S) where
  -- a job of the newest picture, with its source and samples
  abbrev pub work_in : List Picture → List Choice → Job → JobWork S
  work_in shot chosen job = record {
    id = job.id;
    picture = length shot;
    role = job.role;
    q = job.q;
    kind = kind_of job.source;
    source = state codec shot chosen job.source;
    samples = picture_at shot (length shot);
  }

  -- the work of a job of the newest picture, by the calls so far
  abbrev pub work_of : Past → Job → JobWork S
  work_of past job = work_in (pictures past) (choices past) job

  -- the work of the job of this id, by the calls so far, of whichever picture, open or closed
  abbrev pub work_at : Past → ℕ → Option (JobWork S)
  work_at [] id = None
  work_at (NextPicture picture moment (Started count) ∷ past) id = first_some (option_map (work_in (pictures past ++ picture ∷ []) (choices past)) (find (λ job. job.id == id) (jobs past))) (work_at past id)
  work_at (_ ∷ past) id = work_at past id

  -- a candidate of the open picture, with its report where that is in
  abbrev pub candidate_in : Summary → Job → Candidate (JobReport S)
  candidate_in s job = record {
    id = job.id;
    role = job.role;
    source = job.source;
    q = job.q;
    report = option_map (λ gave. record { work = work_in s.shot s.chosen job; gave = gave }) (s.reported job.id);
  }

  abbrev pub spare_in : Bool → Summary → Job → Option (Candidate (JobReport S))
  spare_in spared s job = if spared then Some (candidate_in s job) else None

  -- of a picture that was started after these calls: its candidates with their reports
  abbrev pub open_in : Summary → Past → OpenPicture (JobReport S)
  open_in s before = record {
    from_tip = base before == tip before;
    coarse = candidate_in s (coarse_job (last_job before + 1) (base before) (quantiser before));
    spare = spare_in (needs_spare (base before) (safe before) (tip before)) s (spare_job ((last_job before + 1) + 1) (safe before) (quantiser before));
    fine = candidate_in s (fine_job (if needs_spare (base before) (safe before) (tip before) then (last_job before + 1) + 2 else (last_job before + 1) + 1) (base before) (quantiser before));
  }

  -- the state of a frame number from the floor to the tip, with its name
  abbrev pub kept_in : Summary → ℕ → Option (StoredState S)
  kept_in s n =
      if nat_le (floor_of s.chosen) n && nat_le n (tip_of s.chosen)
      then Some (record { number = n; name = record { 0 = name_in codec (state codec s.shot s.chosen n) }; state = state codec s.shot s.chosen n })
      else None

  -- what a sender keeps is what its calls left
  pub record Keeps (m : Machine S) (s : Summary) : Type 0 where
    pub tip_is : m.tip ≡ tip_of s.chosen
    pub floor_is : m.floor ≡ floor_of s.chosen
    pub sent_is : m.sent ≡ s.sent
    pub pictures_is : m.pictures ≡ length s.shot
    pub last_job_is : m.last_job ≡ s.last_job
    pub quantiser_is : m.q ≡ s.q
    pub heard_is : m.acks.heard ≡ s.heard
    pub average_is : m.acks.average ≡ s.average
    pub heard_at_is : m.acks.heard_at ≡ s.heard_at
    pub moment_is : m.acks.moment ≡ s.now
    pub sent_frames_are : m.sent_frames ≡ sent_frames_of s.acknowledged s.chosen
    pub states_are : (n : ℕ) → with_number n m.store.kept ≡ kept_in s n
    pub open_is : m.open_picture ≡ option_map (open_in s) s.opened
    pub waiting_are : queued m.waiting ≡ map (work_in s.shot s.chosen) s.waiting
    pub outstanding_long : s.last_job < length m.outstanding
    pub outstanding_are : (id : ℕ) → flag m.outstanding id ≡ s.is_outstanding id

  -- the calls that a sender was given, with their answers
  pub record SenderStands (m : Machine S) (past : Past) : Type 0 where
    pub legal : IsLegalSender codec m.session past
    pub keeps : Keeps m (summary past)

  -- a report is of the work that its job is, where that is one of the open picture
  abbrev pub IsWorkOfItsJob : Past → JobWork S → Type 0
  IsWorkOfItsJob past work = Each (λ job. job.id ≡ work.id → work ≡ work_of past job) (jobs_after (opened past))
