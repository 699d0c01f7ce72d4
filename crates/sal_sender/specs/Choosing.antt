-- Which report is chosen.
use Rattle.std.specs.Prelude.{ℕ, ◌+◌, max, min, Bool, true, false, ◌&&◌, List, [], ◌∷◌, ◌++◌, length, map, filter, find, filter_map, Option, Some, None, ◌==◌, nat_le, if◌then◌else◌}
use Rattle.std.specs.Option.{option_map}
use Rattle.std.specs.List.{list_any}
use Rattle.sal_base.specs.declared.coding.Encoding.{Encoding}
use Rattle.sal_base.specs.declared.coding.Encoding.TheVariants.{Frame, Oversize}
use Rattle.sal_codec.specs.Coding.{Coding}
use Rattle.sal_wire.specs.Fragmentation.{fragment_count}
use Rattle.sal_wire.specs.Layout.{fragment_bytes}
use Rattle.sal_budget.specs.Budget.{budget_of, least_window}
use Rattle.sal_sender.specs.declared.outcome.Gave.{Gave}
use Rattle.sal_sender.specs.declared.outcome.Gave.TheVariants.{Frame as GaveFrame, Oversize as GaveOversize, NoMemory as GaveNoMemory}
use Rattle.sal_sender.specs.declared.choice.JobRole.TheVariants.{Coarse, Spare, Fine}
use Rattle.sal_sender.specs.declared.choice.Choice.{Choice}
use Rattle.sal_sender.specs.declared.choice.Size.{Size}
use Rattle.sal_sender.specs.declared.choice.Size.TheVariants.{Datagrams, NoMemory}
use Rattle.sal_sender.specs.declared.choice.Size.TheVariants.{Oversize as TooLarge}
use Rattle.sal_sender.specs.declared.answers.Reported.TheVariants.{Kept}
use Rattle.sal_sender.specs.declared.answers.Chosen.{Chosen}
use Rattle.sal_sender.specs.declared.answers.Chosen.TheVariants.{NoPicture, Waiting, Sent, Nothing}
use Rattle.sal_sender.specs.Past.{SenderCall, Past, Report, choices, pictures, tip, floor, sent, now, opened}
use Rattle.sal_sender.specs.Chain.{picture_at, state_at}
use Rattle.sal_sender.specs.OneThread.{Session, burst_after}
use Rattle.sal_sender.specs.Acks.{safe, lost, average, flight}
use Rattle.sal_sender.specs.Jobs.{Job, kind_of, base, jobs}

-- the roles of jobs
abbrev pub is_coarse : Job → Bool
is_coarse job = elim job.role [ Coarse ↦ true | Spare ↦ false | Fine ↦ false ]

abbrev pub is_spare : Job → Bool
is_spare job = elim job.role [ Coarse ↦ false | Spare ↦ true | Fine ↦ false ]

abbrev pub is_fine : Job → Bool
is_fine job = elim job.role [ Coarse ↦ false | Spare ↦ false | Fine ↦ true ]

-- the picture was to go on from the tip, the tip's chain is lost since, and a spare job was planned for that
abbrev pub lost_since : Past → Past → Bool
lost_since before past = base before == tip before && lost past && list_any is_spare (jobs before)

-- the candidates, the one that is wanted most first
abbrev pub eligible : Bool → List Job → List Job
eligible true all = filter is_spare all
eligible false all = filter is_fine all ++ filter is_coarse all

-- the job without whose report nothing is chosen
abbrev pub needed : Bool → List Job → Option Job
needed true all = find is_spare all
needed false all = find is_coarse all

-- what a call says of this job's report, where it kept it
abbrev pub report_in : ℕ → SenderCall → Option Gave
report_in id (Report job gave Kept) = if job == id then Some gave else None
report_in id _ = None

-- the first of a list
abbrev pub first_in : {X : Type 0} → List X → Option X
first_in [] = None
first_in (x ∷ xs) = Some x

-- the first of two that there is
abbrev pub first_some : {X : Type 0} → Option X → Option X → Option X
first_some None later = later
first_some (Some x) later = Some x

-- whether the job was reported while its picture was open, and then what it gave
abbrev pub reported : Past → ℕ → Option Gave
reported past id = first_in (filter_map (report_in id) past)

-- the size of an encoding
abbrev pub encoding_size : {S : Type 0} → Encoding S → Size
encoding_size (Frame bytes target recon) = Datagrams (fragment_count bytes)
encoding_size (Oversize first) = TooLarge first

-- the size of a report, by the encoding of its job and what it gave
abbrev pub size_of : {S : Type 0} → Encoding S → Gave → Size
size_of encoding GaveFrame = encoding_size encoding
size_of encoding GaveOversize = encoding_size encoding
size_of encoding GaveNoMemory = NoMemory

-- a job with the size of its report
abbrev pub SizedJob : Type 0
SizedJob = Job × Size

-- a frame of at most so many datagrams
abbrev pub candidate_fits : ℕ → SizedJob → Bool
candidate_fits budget (job, Datagrams n) = nat_le n budget
candidate_fits budget (job, TooLarge first) = false
candidate_fits budget (job, NoMemory) = false

-- how many datagrams may be sent at this moment
abbrev pub may_send : Session → Past → ℕ → ℕ
may_send session past moment = budget_of (average past) (least_window session.head.width session.head.height) (flight past) moment

-- the floor that a choice sets: its own frame number where it is a key frame, else at most its source
abbrev pub floor_after : Past → ℕ → ℕ
floor_after past source = if source == 0 then tip past + 1 else max (floor past) (min (safe past) source)

-- the choice that comes next, of a job whose frame has so many datagrams
abbrev pub choice_of : Past → ℕ → Job → ℕ → Choice
choice_of past moment job count = record {
  number = tip past + 1;
  picture = length (pictures past);
  source = job.source;
  job = job.id;
  q = job.q;
  kind = kind_of job.source;
  floor = floor_after past job.source;
  count = count;
  first_serial = sent past + 1;
  moment = moment;
}

-- how many datagrams it is, 0 without a frame
abbrev pub datagram_count : Size → ℕ
datagram_count (Datagrams n) = n
datagram_count (TooLarge first) = 0
datagram_count NoMemory = 0

module _ {S : Type 0} (codec : Coding S) where
  -- the eligible reports, with their sizes
  abbrev pub candidates : Past → Past → List SizedJob
  candidates before past = filter_map sized (eligible (lost_since before past) (jobs before))
    where
      sized : Job → Option SizedJob
      sized job = option_map (λ gave. (job, size_of (codec.encode (state_at codec past job.source) (picture_at (pictures past) (length (pictures past))) job.q (kind_of job.source)) gave)) (reported past job.id)

module _ {S : Type 0} (codec : Coding S) (session : Session) where
  -- the answer with the datagrams of this choice
  abbrev pub sent_with : Past → Choice → Chosen
  sent_with past choice =
      Sent choice (map fragment_bytes (burst_after codec session (pictures past) (choices past) choice (sent past)))

  -- the first candidate that fits, or the budget and all sizes
  abbrev pub choose_found : Past → ℕ → ℕ → List SizedJob → Option SizedJob → Chosen
  choose_found past moment budget all None = Nothing budget (map (λ c. c.1) all)
  choose_found past moment budget all (Some found) = sent_with past (choice_of past moment found.0 (datagram_count found.1))

  abbrev pub choose_among : Past → ℕ → ℕ → List SizedJob → Chosen
  choose_among past moment budget all = choose_found past moment budget all (find (candidate_fits budget) all)

  -- nothing is chosen before the needed report is in
  abbrev pub choose_reported : Past → Past → ℕ → Job → Option Gave → Chosen
  choose_reported before past moment job None = Waiting job.id
  choose_reported before past moment job (Some gave) = choose_among past moment (may_send session past moment) (candidates codec before past)

  abbrev pub choose_needed : Past → Past → ℕ → Option Job → Chosen
  choose_needed before past moment None = NoPicture
  choose_needed before past moment (Some job) = choose_reported before past moment job (reported past job.id)

  abbrev pub choose_opened : Past → ℕ → Option Past → Chosen
  choose_opened past moment None = NoPicture
  choose_opened past moment (Some before) = choose_needed before past moment (needed (lost_since before past) (jobs before))

  -- what a choice at this moment is answered, but for want of memory
  unfoldable pub chosen : Past → ℕ → Chosen
  chosen past moment = choose_opened past (max (now past) moment) (opened past)
