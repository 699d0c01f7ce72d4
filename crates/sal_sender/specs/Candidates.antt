-- The candidates of the open picture and the queue of jobs, as the sender keeps them.
use Rattle.std.specs.Prelude.{ℕ, Bool, false, ◌||◌, List, ◌++◌, Option, Some, None, ◌==◌, if◌then◌else◌}
use Rattle.std.specs.Option.{option_map, option_to_list}
use Rattle.sal_sender.specs.declared.open_picture.Candidate.{Candidate}
use Rattle.sal_sender.specs.declared.open_picture.OpenPicture.{OpenPicture}
use Rattle.sal_sender.specs.declared.open_picture.JobQueue.{JobQueue}

-- the jobs in rising order of their ids
abbrev pub queued : {J : Type 0} → JobQueue J → List J
queued q = option_to_list q.coarse ++ (option_to_list q.spare ++ option_to_list q.fine)

-- a candidate with this report, where it is the one of this id
abbrev pub candidate_with : {R : Type 0} → ℕ → R → Candidate R → Candidate R
candidate_with id report s = if s.id == id then record s { report = Some report } else s

-- whether there is a candidate, and it has this id
abbrev pub is_candidate_of : {R : Type 0} → ℕ → Option (Candidate R) → Bool
is_candidate_of id None = false
is_candidate_of id (Some s) = s.id == id

-- whether a candidate of the picture has this id
abbrev pub is_job_of : {R : Type 0} → ℕ → OpenPicture R → Bool
is_job_of id o = o.coarse.id == id || (o.fine.id == id || is_candidate_of id o.spare)

-- with a report under its job; ids differ
abbrev pub with_report : {R : Type 0} → ℕ → R → OpenPicture R → OpenPicture R
with_report id report o =
    if o.coarse.id == id then record o { coarse = candidate_with id report o.coarse }
    else if o.fine.id == id then record o { fine = candidate_with id report o.fine }
    else record o { spare = option_map (candidate_with id report) o.spare }

-- whether a picture is open and has the job of this id
abbrev pub is_open_job : {R : Type 0} → ℕ → Option (OpenPicture R) → Bool
is_open_job id None = false
is_open_job id (Some o) = is_job_of id o
