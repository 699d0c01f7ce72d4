-- What the sender's other calls are answered.
use Rattle.std.specs.Prelude.{ℕ, ◌≤◌, Bool, true, false, ◌&&◌, ◌||◌, not, List, [], ◌∷◌, length, filter, filter_map, Option, Some, None, is_some, Result, Ok, Err, ◌==◌, nat_lt, nat_le, if◌then◌else◌}
use Rattle.std.specs.List.{list_any}
use Rattle.std.specs.Option.{option_map}
use Rattle.sal_base.specs.declared.limits.TheConstants.{MAX_FRAMES}
use Rattle.sal_base.specs.declared.name.Name.{Name}
use Rattle.sal_base.specs.Names.{same}
use Rattle.sal_base.specs.Lists.{Each}
use Rattle.sal_codec.specs.Coding.{Coding}
use Rattle.sal_wire.specs.declared.fault.WireFault.{WireFault}
use Rattle.sal_wire.specs.declared.datagram.Ack.{Ack}
use Rattle.sal_wire.specs.Message.{Message, FragmentMessage, ByeMessage}
use Rattle.sal_wire.specs.Message.{AckMessage}
use Rattle.sal_sender.specs.declared.answers.Next.{Next}
use Rattle.sal_sender.specs.declared.answers.Next.TheVariants.{Started, NotChosen, Full, Memory}
use Rattle.sal_sender.specs.declared.answers.Reported.{Reported}
use Rattle.sal_sender.specs.declared.answers.Reported.TheVariants.{Stranger, Late, Kept}
use Rattle.sal_sender.specs.declared.answers.Chosen.{Chosen}
use Rattle.sal_sender.specs.declared.answers.Chosen.TheVariants.{NoPicture, Waiting, Sent, Nothing, Memory as ChosenMemory}
use Rattle.sal_sender.specs.declared.answers.Ignore.{Ignore}
use Rattle.sal_sender.specs.declared.answers.Ignore.TheVariants.{Wire, Kind, Session as OtherSession, Serial, Unsent, Name as OtherName, Old}
use Rattle.sal_sender.specs.declared.answers.HeardAck.{HeardAck}
use Rattle.sal_sender.specs.declared.answers.HeardAck.TheVariants.{Heard, Ignored}
use Rattle.sal_sender.specs.Past.{SenderCall, Past, TakeJob, Report, pictures, tip, floor, sent, opened, started}
use Rattle.sal_chain.specs.Held.{name_in}
use Rattle.sal_sender.specs.Chain.{state_at}
use Rattle.sal_sender.specs.OneThread.{Session}
use Rattle.sal_sender.specs.Acks.{acknowledged, heard, named_from}
use Rattle.sal_sender.specs.Jobs.{Job, jobs}
use Rattle.sal_sender.specs.Choosing.{first_in}

-- the jobs of the picture that was started after this past, if there is one
abbrev pub jobs_after : Option Past → List Job
jobs_after None = []
jobs_after (Some before) = jobs before

-- whether a picture was started
abbrev pub starts : Next → Bool
starts (Started jobs) = true
starts (NotChosen n) = false
starts Full = false
starts Memory = false

-- what the next picture is answered, but for want of memory
abbrev pub next_answer : Past → Next
next_answer past =
    if is_some (opened past) then NotChosen (length (pictures past))
    else if length (pictures past) == MAX_FRAMES then Full
    else Started (length (jobs past))

-- whether this call handed out the job of this id
abbrev pub hands_out : ℕ → SenderCall → Bool
hands_out id (TakeJob (Some job)) = job == id
hands_out id _ = false

-- whether a job was handed out
abbrev pub is_taken : Past → ℕ → Bool
is_taken [] id = false
is_taken (call ∷ past) id = hands_out id call || is_taken past id

-- the jobs of the newest picture that were not handed out
abbrev pub waiting_jobs : Past → List Job
waiting_jobs past = filter (λ job. not (is_taken past job.id)) (jobs_after (started past))

-- the id of the first waiting job, which is the least that isn't handed out
abbrev pub take_answer : Past → Option ℕ
take_answer past = option_map (λ job. job.id) (first_in (waiting_jobs past))

-- no job that waits has a lower id
abbrev pub IsLeastWaiting : Past → ℕ → Type 0
IsLeastWaiting past id = Each (λ job. id ≤ job.id) (waiting_jobs past)

-- whether a job was handed out and is not reported since
abbrev pub is_outstanding : Past → ℕ → Bool
is_outstanding [] id = false
is_outstanding (call ∷ past) id = after call (is_outstanding past id)
  where
    after : SenderCall → Bool → Bool
    after (TakeJob (Some job)) outstanding = job == id || outstanding
    after (Report job gave Late) outstanding = not (job == id) && outstanding
    after (Report job gave Kept) outstanding = not (job == id) && outstanding
    after _ outstanding = outstanding

-- what a report is answered
abbrev pub report_answer : Past → ℕ → Reported
report_answer past id =
    if not (is_outstanding past id) then Stranger
    else if list_any (λ job. job.id == id) (jobs_after (opened past)) then Kept
    else Late

-- a frame number that wasn't sent, or a name that isn't that of its state
abbrev pub unsent_or_misnamed : {S : Type 0} → Coding S → Past → ℕ × Name → Option Ignore
unsent_or_misnamed codec past h =
    if nat_lt (tip past) h.0 then Some (Unsent h.0)
    else if same (name_in codec (state_at codec past h.0)) h.1.0 then None
    else Some (OtherName h.0 (record { 0 = name_in codec (state_at codec past h.0) }) h.1)

-- the first fault among the frame numbers at or above the floor
abbrev pub first_wrong : {S : Type 0} → Coding S → Past → Ack → Option Ignore
first_wrong codec past ack = first_in (filter_map (unsent_or_misnamed codec past) (filter (λ held. nat_le (floor past) held.0) ack.held))

-- the frame numbers from the floor on that an acknowledgement names for the first time
abbrev pub newly_named : Past → Ack → List ℕ
newly_named past ack = filter (λ n. not (list_any (λ m. m == n) (acknowledged past))) (named_from (floor past) ack)

-- frame numbers that are named for the first time, or a serial that is above all before; else it is old
abbrev pub fresh : ℕ → ℕ → List ℕ → HeardAck
fresh heard serial [] = if nat_lt heard serial then Heard [] else Ignored Old
fresh heard serial (n ∷ more) = Heard (n ∷ more)

-- the answer, but for a fault
abbrev pub unless_wrong : Option Ignore → HeardAck → HeardAck
unless_wrong None answer = answer
unless_wrong (Some why) answer = Ignored why

-- what an acknowledgement is answered
abbrev pub ack_answer : {S : Type 0} → Coding S → Session → Past → Ack → HeardAck
ack_answer codec session past ack =
    if not (ack.session == session.number) then Ignored OtherSession
    else if nat_lt (sent past) ack.serial then Ignored (Serial (sent past) ack.serial)
    else unless_wrong (first_wrong codec past ack) (fresh (heard past) ack.serial (newly_named past ack))

-- what bytes that came are answered
abbrev pub heard_answer : {S : Type 0} → Coding S → Session → Past → Result Message WireFault → HeardAck
heard_answer codec session past (Err fault) = Ignored (Wire fault)
heard_answer codec session past (Ok (FragmentMessage e)) = Ignored Kind
heard_answer codec session past (Ok (ByeMessage number last)) = Ignored Kind
heard_answer codec session past (Ok (AckMessage ack)) = ack_answer codec session past ack

-- whether a choice closes the picture
abbrev pub closes : Chosen → Bool
closes NoPicture = false
closes (Waiting id) = false
closes (Sent choice burst) = true
closes (Nothing budget sizes) = true
closes ChosenMemory = false

-- whether a frame is sent
abbrev pub sends : Chosen → Bool
sends NoPicture = false
sends (Waiting id) = false
sends (Sent choice burst) = true
sends (Nothing budget sizes) = false
sends ChosenMemory = false
