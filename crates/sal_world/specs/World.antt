-- Both machines in one world: any datagram may come any number of times, in any order, or never.
use Rattle.std.specs.Prelude.{ℕ, zero, suc, max, Bool, List, [], ◌∷◌, ◌++◌, Option, Some, None, slice_get}
use Rattle.sal_base.specs.declared.picture.Picture.{Picture}
use Rattle.sal_codec.specs.Coding.{Coding}
use Rattle.sal_wire.specs.declared.datagram.Ack.{Ack}
use Rattle.sal_wire.specs.Parsing.{parsed}
use Rattle.sal_wire.specs.Layout.{ack_bytes}
use Rattle.sal_sender.specs.declared.outcome.Gave.{Gave}
use Rattle.sal_sender.specs.Past.{Past, NextPicture, TakeJob, Report, Choose, Hear, datagrams}
use Rattle.sal_sender.specs.OneThread.{Session}
use Rattle.sal_sender.specs.Choosing.{chosen}
use Rattle.sal_sender.specs.Answers.{next_answer, take_answer, report_answer, heard_answer}
use Rattle.sal_receiver.specs.declared.answers.Delivered.TheVariants.{Taken}
use Rattle.sal_receiver.specs.Past.{ReceiverCall, Deliver, TakeReady, Decoding, DecodeResult}
use Rattle.sal_receiver.specs.Ready.{ready_source, frame, decoding_of}
use Rattle.sal_receiver.specs.Ready.{ready_answer}
use Rattle.sal_receiver.specs.Answers.{deliver_answer, decoded_answer}

-- what may happen next; a report or a decoding is of what was handed out, and a call that lacks memory does nothing.
-- Jobs and pictures are counted from 1 as they are started, datagrams and acknowledgements from 1 as they are sent
pub data WorldEvent : Type 0 where
  Starts : (picture : Picture) → WorldEvent
  TakesJob : WorldEvent
  Reports : (job : ℕ) → (gave : Gave) → WorldEvent
  Chooses : WorldEvent
  Delivers : (which : ℕ) → WorldEvent
  Hears : (which : ℕ) → WorldEvent
  TakesReady : WorldEvent
  Decodes : (number : ℕ) → (ran : Bool) → WorldEvent
  Passes : (moment : ℕ) → WorldEvent

-- what both machines were called with and answered, and the moment that they share
pub record WorldPast (S : Type 0) : Type 0 where
  pub sender : Past
  pub receiver : List (ReceiverCall S)
  pub moment : ℕ

module _ {S : Type 0} where
  abbrev pub start : WorldPast S
  start = record { sender = []; receiver = []; moment = 0 }

  abbrev pub ack_in : ReceiverCall S → List Ack
  ack_in (Deliver parsed moment (Taken ack)) = ack ∷ []
  ack_in _ = []

  abbrev pub acks_of : List (ReceiverCall S) → List Ack
  acks_of [] = []
  acks_of (call ∷ past) = acks_of past ++ ack_in call

  -- all datagrams that choices answered, and all acknowledgements that deliveries answered
  abbrev pub sent : WorldPast S → List (List ℕ)
  sent w = datagrams w.sender

  abbrev pub acks : WorldPast S → List Ack
  acks w = acks_of w.receiver

-- what has the number k in a list whose first has the number 1
abbrev pub at_number : {X : Type 0} → List X → ℕ → Option X
at_number xs zero = None
at_number xs (suc k) = slice_get xs k

module _ {S : Type 0} (codec : Coding S) where
  -- bytes come to the receiver
  abbrev pub delivered : WorldPast S → List ℕ → WorldPast S
  delivered w bytes = record w { receiver = Deliver (parsed bytes) w.moment (deliver_answer codec w.receiver (parsed bytes) w.moment) ∷ w.receiver }

  abbrev pub delivered_if_sent : WorldPast S → Option (List ℕ) → WorldPast S
  delivered_if_sent w None = w
  delivered_if_sent w (Some bytes) = delivered w bytes

  abbrev pub decodes : WorldPast S → ℕ → DecodeResult S → WorldPast S
  decodes w n outcome = record w { receiver = Decoding n outcome (decoded_answer codec w.receiver n outcome) ∷ w.receiver }

module _ {S : Type 0} (codec : Coding S) (session : Session) where
  -- an acknowledgement comes back to the sender
  abbrev pub heard_back : WorldPast S → Ack → WorldPast S
  heard_back w ack = record w { sender = Hear (parsed (ack_bytes ack)) w.moment (heard_answer codec session w.sender (parsed (ack_bytes ack))) ∷ w.sender }

  abbrev pub heard_if_sent : WorldPast S → Option Ack → WorldPast S
  heard_if_sent w None = w
  heard_if_sent w (Some ack) = heard_back w ack

  -- the world after an event
  abbrev pub happens : WorldPast S → WorldEvent → WorldPast S
  happens w (Starts picture) = record w { sender = NextPicture picture w.moment (next_answer w.sender) ∷ w.sender }
  happens w TakesJob = record w { sender = TakeJob (take_answer w.sender) ∷ w.sender }
  happens w (Reports job gave) = record w { sender = Report job gave (report_answer w.sender job) ∷ w.sender }
  happens w Chooses = record w { sender = Choose w.moment (chosen codec session w.sender w.moment) ∷ w.sender }
  happens w (Delivers which) = delivered_if_sent codec w (at_number (sent w) which)
  happens w (Hears which) = heard_if_sent w (at_number (acks w) which)
  happens w TakesReady = record w { receiver = TakeReady (ready_answer codec w.receiver) ∷ w.receiver }
  happens w (Decodes n ran) = decodes codec w n (decoding_of codec (ready_source codec w.receiver n) (frame w.receiver n) ran)
  happens w (Passes moment) = record w { moment = max moment w.moment }

  -- the world after these events, the newest first
  unfoldable pub after : List WorldEvent → WorldPast S
  after [] = start
  after (event ∷ before) = happens (after before) event
