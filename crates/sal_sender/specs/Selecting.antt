-- Which candidate is chosen, in the words of what the sender keeps.
use Rattle.std.specs.Prelude.{ℕ, Bool, true, false, ◌&&◌, List, ◌++◌, Option, Some, None, is_some, nat_le, if◌then◌else◌}
use Rattle.std.specs.Option.{option_map, option_to_list}
use Rattle.sal_codec.specs.Coding.{Coding}
use Rattle.sal_sender.specs.declared.choice.Size.{Size}
use Rattle.sal_sender.specs.declared.choice.Size.TheVariants.{Datagrams, Oversize, NoMemory}
use Rattle.sal_sender.specs.declared.open_picture.Candidate.{Candidate}
use Rattle.sal_sender.specs.declared.open_picture.OpenPicture.{OpenPicture}
use Rattle.sal_sender.specs.Choosing.{size_of, first_some}
use Rattle.sal_sender.specs.JobWork.{JobReport, encoded}

-- the picture's base was the tip, the tip's chain is lost since, and there is a spare candidate
abbrev pub is_lost_in : {R : Type 0} → Bool → OpenPicture R → Bool
is_lost_in lost o = o.from_tip && lost && is_some o.spare

-- the candidate that is wanted most, and the other one
abbrev pub first_wanted : {R : Type 0} → Bool → OpenPicture R → Option (Candidate R)
first_wanted true o = o.spare
first_wanted false o = Some o.fine

abbrev pub second_wanted : {R : Type 0} → Bool → OpenPicture R → Option (Candidate R)
second_wanted true o = None
second_wanted false o = Some o.coarse

-- the candidate without whose report nothing is chosen
abbrev pub needed_in : {R : Type 0} → Bool → OpenPicture R → Option (Candidate R)
needed_in true o = o.spare
needed_in false o = Some o.coarse

-- this id, where the report isn't in
abbrev pub id_without_report : {R : Type 0} → ℕ → Option R → Option ℕ
id_without_report id None = Some id
id_without_report id (Some r) = None

-- its id, where its report isn't in
abbrev pub missing_from : {R : Type 0} → Option (Candidate R) → Option ℕ
missing_from None = None
missing_from (Some s) = id_without_report s.id s.report

-- a report of this size is a frame that fits the budget, in datagrams
abbrev pub fits_in : ℕ → Size → Bool
fits_in budget (Datagrams n) = nat_le n budget
fits_in budget (Oversize first) = false
fits_in budget NoMemory = false

-- there is a size, and it fits
abbrev pub has_fit : ℕ → Option Size → Bool
has_fit budget None = false
has_fit budget (Some z) = fits_in budget z

module _ {S : Type 0} (codec : Coding S) where
  -- the size of a report
  abbrev pub size_of_report : JobReport S → Size
  size_of_report r = size_of (encoded codec r.work) r.gave

  -- the size of a candidate's report, where that is in
  abbrev pub size_in : Candidate (JobReport S) → Option Size
  size_in s = option_map size_of_report s.report

  -- the same, where there is a candidate
  abbrev pub size_at : Option (Candidate (JobReport S)) → Option Size
  size_at None = None
  size_at (Some s) = size_in s

  -- the sizes of the eligible reports, of the one that is wanted most first
  abbrev pub sizes_in : Bool → OpenPicture (JobReport S) → List Size
  sizes_in is_lost o = option_to_list (size_at (first_wanted is_lost o)) ++ option_to_list (size_at (second_wanted is_lost o))

  -- a candidate, where its report is in and fits
  abbrev pub fitting_in : ℕ → Option (Candidate (JobReport S)) → Option (Candidate (JobReport S))
  fitting_in budget None = None
  fitting_in budget (Some s) = if has_fit budget (size_in s) then Some s else None

  -- the first one that fits
  abbrev pub found_in : Bool → ℕ → OpenPicture (JobReport S) → Option (Candidate (JobReport S))
  found_in is_lost budget o = first_some (fitting_in budget (first_wanted is_lost o)) (fitting_in budget (second_wanted is_lost o))
