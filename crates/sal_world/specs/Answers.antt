-- What each call of a world is answered, and each event.
use Rattle.std.specs.Prelude.{ℕ, max, Bool, true, false, not, List, length, Option, Some, None, is_some, is_none, Result, Ok, Err}
use Rattle.std.specs.Arc.{arc_value}
use Rattle.sal_codec.specs.Coding.{Coding}
use Rattle.sal_wire.specs.declared.datagram.Ack.{Ack}
use Rattle.sal_wire.specs.Parsing.{parsed}
use Rattle.sal_wire.specs.Layout.{ack_bytes}
use Rattle.sal_sender.specs.declared.answers.Next.{Next as Start}
use Rattle.sal_sender.specs.declared.answers.Next.TheVariants.{Started, NotChosen, Full, Memory as StartMemory}
use Rattle.sal_sender.specs.declared.answers.Chosen.{Chosen}
use Rattle.sal_sender.specs.declared.answers.Chosen.TheVariants.{NoPicture, Waiting, Sent, Nothing, Memory as ChosenMemory}
use Rattle.sal_sender.specs.declared.answers.Reported.{Reported}
use Rattle.sal_sender.specs.declared.answers.Reported.TheVariants.{Stranger, Late, Kept}
use Rattle.sal_sender.specs.declared.answers.HeardAck.{HeardAck}
use Rattle.sal_sender.specs.declared.answers.HeardAck.TheVariants.{Heard, Ignored}
use Rattle.sal_sender.specs.OneThread.{Session}
use Rattle.sal_sender.specs.Choosing.{chosen}
use Rattle.sal_sender.specs.Answers.{starts, closes, next_answer, report_answer, heard_answer}
use Rattle.sal_receiver.specs.declared.answers.Delivered.{Delivered}
use Rattle.sal_receiver.specs.declared.answers.Delivered.TheVariants.{Taken, Ended, Refused, Memory as DeliveredMemory}
use Rattle.sal_receiver.specs.declared.answers.Done.{Done}
use Rattle.sal_receiver.specs.declared.answers.Done.TheVariants.{Stranger as StrangerFrame, Returned, Unfit, Misnamed, Older, Show}
use Rattle.sal_receiver.specs.Past.{DecodeResult, Sound, Faulty, NoMemory}
use Rattle.sal_receiver.specs.Ready.{ready_source, frame, decoding_of}
use Rattle.sal_receiver.specs.Promises.{IsTaken}
use Rattle.sal_receiver.specs.Answers.{deliver_answer, decoded_answer}
use Rattle.sal_world.specs.declared.event.Event.{Event}
use Rattle.sal_world.specs.declared.event.Event.TheVariants.{Next, Take, Report, Choose, Down, Up, Ready, Decoded, Moment}
use Rattle.sal_world.specs.declared.event.Answer.{Answer}
use Rattle.sal_world.specs.declared.event.Answer.TheVariants.{Next as NextSaid, Take as TakeSaid, Report as ReportSaid, Choose as ChooseSaid, Sent as SentSaid, Down as DownSaid, Up as UpSaid, Ready as ReadySaid, Decoded as DecodedSaid, Moment as MomentSaid, Unsent as UnsentSaid, Memory}
use Rattle.sal_world.specs.declared.event.ChooseAnswer.{ChooseAnswer}
use Rattle.sal_world.specs.declared.event.ChooseAnswer.TheVariants.{NoPicture as NoPictureOpen, Waiting as WaitingFor, Sent as SentAlone, Nothing as NothingFits, Memory as ChooseMemory}
use Rattle.sal_world.specs.declared.event.Unsent.{Unsent}
use Rattle.sal_world.specs.World.{WorldEvent, Starts, TakesJob, Reports, Chooses, Delivers, Hears, TakesReady, Decodes, Passes, WorldPast, sent, acks, at_number}
use Rattle.sal_world.specs.Promises.{IsHeardOrOld}
use Rattle.sal_world.specs.HandedOut.{next_job, next_frame}

-- whether there was memory for a decoding
abbrev pub did_decode : {S : Type 0} → DecodeResult S → Bool
did_decode (Sound state picture) = true
did_decode (Faulty fault) = true
did_decode NoMemory = false

-- the answer to a choice, whose datagrams went to the list of those sent
abbrev pub without_datagrams : Chosen → ChooseAnswer
without_datagrams NoPicture = NoPictureOpen
without_datagrams (Waiting id) = WaitingFor id
without_datagrams (Sent choice burst) = SentAlone choice
without_datagrams (Nothing budget sizes) = NothingFits budget sizes
without_datagrams ChosenMemory = ChooseMemory

-- ---- the calls, but for want of memory; the other calls are answered as the machines answer them

module _ {S : Type 0} (codec : Coding S) (session : Session) where
  abbrev pub choose_answer : WorldPast S → ChooseAnswer
  choose_answer w = without_datagrams (chosen codec session w.sender w.moment)

  -- what the receiver answers to a datagram, if there is one of that number
  abbrev pub answer_to_datagram : WorldPast S → ℕ → Option (List ℕ) → Result Delivered Unsent
  answer_to_datagram w which None = Err (record { number = which; last = length (sent w) })
  answer_to_datagram w which (Some bytes) = Ok (deliver_answer codec w.receiver (parsed bytes) w.moment)

  abbrev pub delivery_answer : WorldPast S → ℕ → Result Delivered Unsent
  delivery_answer w which = answer_to_datagram w which (at_number (sent w) which)

  -- what the sender answers to an acknowledgement, if there is one of that number
  abbrev pub answer_to_ack : WorldPast S → ℕ → Option Ack → Result HeardAck Unsent
  answer_to_ack w which None = Err (record { number = which; last = length (acks w) })
  answer_to_ack w which (Some ack) = Ok (heard_answer codec session w.sender (parsed (ack_bytes ack)))

  abbrev pub hear_answer : WorldPast S → ℕ → Result HeardAck Unsent
  hear_answer w which = answer_to_ack w which (at_number (acks w) which)

  -- what the receiver answers to a decoding of a number's frame
  abbrev pub done_answer : WorldPast S → ℕ → Bool → Done
  done_answer w n ran = decoded_answer codec w.receiver n (decoding_of codec (ready_source codec w.receiver n) (frame w.receiver n) ran)

-- ---- the events

module _ {C S : Type 0} where
  -- an event, as the definitions have it
  abbrev pub event_of : Event C S → WorldEvent
  event_of (Next picture) = Starts (arc_value picture)
  event_of Take = TakesJob
  event_of (Report report) = Reports report.work.id report.gave
  event_of Choose = Chooses
  event_of (Down which) = Delivers which
  event_of (Up which) = Hears which
  event_of Ready = TakesReady
  event_of (Decoded decoding) = Decodes decoding.handed.number (did_decode decoding.outcome)
  event_of (Moment moment) = Passes moment

  -- the answer to an event from the answer to its call: want of memory is one answer for all
  abbrev pub of_next : Start → Answer C S
  of_next (Started jobs) = NextSaid (Started jobs)
  of_next (NotChosen n) = NextSaid (NotChosen n)
  of_next Full = NextSaid Full
  of_next StartMemory = Memory

  abbrev pub of_choose : ChooseAnswer → Answer C S
  of_choose NoPictureOpen = ChooseSaid NoPicture
  of_choose (WaitingFor id) = ChooseSaid (Waiting id)
  of_choose (SentAlone choice) = SentSaid choice
  of_choose (NothingFits budget sizes) = ChooseSaid (Nothing budget sizes)
  of_choose ChooseMemory = Memory

  abbrev pub of_deliver : Result Delivered Unsent → Answer C S
  of_deliver (Ok (Taken ack)) = DownSaid (Taken ack)
  of_deliver (Ok (Ended last)) = DownSaid (Ended last)
  of_deliver (Ok (Refused cause)) = DownSaid (Refused cause)
  of_deliver (Ok DeliveredMemory) = Memory
  of_deliver (Err unsent) = UnsentSaid unsent.number unsent.last

  abbrev pub of_hear : Result HeardAck Unsent → Answer C S
  of_hear (Ok answer) = UpSaid answer
  of_hear (Err unsent) = UnsentSaid unsent.number unsent.last

module _ {C S : Type 0} (codec : Coding S) (session : Session) where
  -- what an event is answered, but for want of memory
  abbrev pub answer_to : WorldPast S → WorldEvent → Answer C S
  answer_to w (Starts picture) = of_next (next_answer w.sender)
  answer_to w TakesJob = TakeSaid (next_job codec w.sender)
  answer_to w (Reports job gave) = ReportSaid (report_answer w.sender job)
  answer_to w Chooses = of_choose (choose_answer codec session w)
  answer_to w (Delivers which) = of_deliver (delivery_answer codec session w which)
  answer_to w (Hears which) = of_hear (hear_answer codec session w which)
  answer_to w TakesReady = ReadySaid (next_frame codec w.receiver)
  answer_to w (Decodes n ran) = DecodedSaid (done_answer codec session w n ran)
  answer_to w (Passes moment) = MomentSaid (max moment w.moment)

-- ---- what is refused, and what takes memory

-- whether a report, a datagram, an acknowledgement or a decoding changes nothing
abbrev pub is_stranger : Reported → Bool
is_stranger Stranger = true
is_stranger Late = false
is_stranger Kept = false

abbrev pub is_left_alone : Delivered → Bool
is_left_alone (Taken ack) = false
is_left_alone (Ended last) = false
is_left_alone (Refused cause) = true
is_left_alone DeliveredMemory = true

abbrev pub is_ignored : HeardAck → Bool
is_ignored (Heard numbers) = false
is_ignored (Ignored why) = true

abbrev pub is_unknown : Done → Bool
is_unknown StrangerFrame = true
is_unknown (Returned n) = false
is_unknown (Unfit n why) = false
is_unknown (Misnamed named found) = false
is_unknown (Older n greater) = false
is_unknown (Show n picture) = false

-- whether a choice leaves the picture open, if there is one
abbrev pub is_choice_refused : ChooseAnswer → Bool
is_choice_refused NoPictureOpen = true
is_choice_refused (WaitingFor id) = true
is_choice_refused (SentAlone choice) = false
is_choice_refused (NothingFits budget sizes) = false
is_choice_refused ChooseMemory = true

abbrev pub is_delivery_refused : Result Delivered Unsent → Bool
is_delivery_refused (Ok answer) = is_left_alone answer
is_delivery_refused (Err unsent) = true

abbrev pub is_ack_refused : Result HeardAck Unsent → Bool
is_ack_refused (Ok answer) = is_ignored answer
is_ack_refused (Err unsent) = true

module _ {C S : Type 0} where
  -- whether an event was refused, found nothing to hand out, or lacked memory
  abbrev pub is_refused : Answer C S → Bool
  is_refused (NextSaid answer) = not (starts answer)
  is_refused (TakeSaid job) = is_none job
  is_refused (ReportSaid answer) = is_stranger answer
  is_refused (ChooseSaid answer) = not (closes answer)
  is_refused (SentSaid choice) = false
  is_refused (DownSaid answer) = is_left_alone answer
  is_refused (UpSaid answer) = is_ignored answer
  is_refused (ReadySaid frame) = is_none frame
  is_refused (DecodedSaid answer) = is_unknown answer
  is_refused (MomentSaid moment) = false
  is_refused (UnsentSaid which last) = true
  is_refused Memory = true

-- whether an event takes memory: a picture that is started, a choice, and a datagram that there is
abbrev pub takes_memory : {S : Type 0} → WorldPast S → WorldEvent → Bool
takes_memory w (Starts picture) = starts (next_answer w.sender)
takes_memory w TakesJob = false
takes_memory w (Reports job gave) = false
takes_memory w Chooses = true
takes_memory w (Delivers which) = is_some (at_number (sent w) which)
takes_memory w (Hears which) = false
takes_memory w TakesReady = false
takes_memory w (Decodes n ran) = false
takes_memory w (Passes moment) = false

-- ---- where names differ: no datagram is refused, no acknowledgement is ignored but as old, and no decoding is unfit or misnamed

abbrev pub IsHonestDelivery : Result Delivered Unsent → Type 0
IsHonestDelivery (Ok (Taken ack)) = Unit {0}
IsHonestDelivery (Ok (Ended last)) = ⊥
IsHonestDelivery (Ok (Refused cause)) = ⊥
IsHonestDelivery (Ok DeliveredMemory) = Unit {0}
IsHonestDelivery (Err unsent) = Unit {0}

abbrev pub IsHonestHearing : Result HeardAck Unsent → Type 0
IsHonestHearing (Ok answer) = IsHeardOrOld answer
IsHonestHearing (Err unsent) = Unit {0}

abbrev pub IsHonestDone : Done → Type 0
IsHonestDone (Unfit n why) = ⊥
IsHonestDone (Misnamed named found) = ⊥
IsHonestDone _ = Unit {0}

module _ {C S : Type 0} where
  abbrev pub IsHonest : Answer C S → Type 0
  IsHonest (DownSaid answer) = IsTaken answer
  IsHonest (UpSaid answer) = IsHeardOrOld answer
  IsHonest (DecodedSaid answer) = IsHonestDone answer
  IsHonest _ = Unit {0}
