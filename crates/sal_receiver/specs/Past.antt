-- The receiver's past: its calls with their answers, the newest first.
use Rattle.std.specs.Prelude.{ℕ, max, List, [], ◌∷◌, filter_map, Option, Some, None, Result, Ok}
use Rattle.sal_y4m.specs.declared.head.Head.{Head}
use Rattle.sal_base.specs.declared.picture.Picture.{Picture}
use Rattle.sal_base.specs.declared.coding.Fault.{Fault}
use Rattle.sal_wire.specs.declared.fault.WireFault.{WireFault}
use Rattle.sal_wire.specs.Fields.{FragmentFields}
use Rattle.sal_wire.specs.Message.{Message, FragmentMessage, ByeMessage}
use Rattle.sal_reasm.specs.Complete.{floor_of, with_fragment}
use Rattle.sal_reasm.specs.Offer.{or_else}
use Rattle.sal_budget.specs.Gap.{Arrival}
use Rattle.sal_receiver.specs.declared.answers.Delivered.{Delivered}
use Rattle.sal_receiver.specs.declared.answers.Delivered.TheVariants.{Taken, Ended}
use Rattle.sal_receiver.specs.declared.answers.Done.{Done}
use Rattle.sal_receiver.specs.declared.answers.Done.TheVariants.{Show}

-- what came of decoding a frame
pub data DecodeResult (S : Type 0) : Type 0 where
  Sound : (state : S) → (picture : Picture) → DecodeResult S
  Faulty : (fault : Fault) → DecodeResult S
  NoMemory : DecodeResult S

-- one call with its answer
pub data ReceiverCall (S : Type 0) : Type 0 where
  Deliver : (came : Result Message WireFault) → (moment : ℕ) → (answer : Delivered) → ReceiverCall S
  TakeReady : (answer : Option ℕ) → ReceiverCall S
  Decoding : (number : ℕ) → (outcome : DecodeResult S) → (answer : Done) → ReceiverCall S

-- the size and rate that a fragment says
abbrev pub head_of : FragmentFields → Head
head_of e = record { width = e.width; height = e.height; rate = e.rate }

abbrev pub arrival_of : FragmentFields → ℕ → Arrival
arrival_of e moment = record { moment = moment; serial = e.serial; pause = e.pause }

abbrev pub with_taken : Option FragmentFields → List FragmentFields → List FragmentFields
with_taken None before = before
with_taken (Some e) before = with_fragment e before

module _ {S : Type 0} where
  abbrev pub fragment_in : ReceiverCall S → Option FragmentFields
  fragment_in (Deliver (Ok (FragmentMessage e)) moment (Taken ack)) = Some e
  fragment_in _ = None

  abbrev pub shown_in : ReceiverCall S → Option (ℕ × Picture)
  shown_in (Decoding n outcome (Show m picture)) = Some (m, picture)
  shown_in _ = None

  -- the moment of a call that wasn't refused
  abbrev pub moment_in : ReceiverCall S → ℕ
  moment_in (Deliver came moment (Taken ack)) = moment
  moment_in (Deliver came moment (Ended last)) = moment
  moment_in _ = 0

  abbrev pub session_in : ReceiverCall S → Option ℕ
  session_in (Deliver (Ok (FragmentMessage e)) moment (Taken ack)) = Some e.session
  session_in (Deliver (Ok (ByeMessage number last)) moment (Ended m)) = Some number
  session_in _ = None

  abbrev pub head_in : ReceiverCall S → Option Head
  head_in (Deliver (Ok (FragmentMessage e)) moment (Taken ack)) = Some (head_of e)
  head_in _ = None

  -- the fragments that were taken while their numbers stood at or above the floor, the newest first
  abbrev pub taken : List (ReceiverCall S) → List FragmentFields
  taken [] = []
  taken (call ∷ past) = with_taken (fragment_in call) (taken past)

  -- the numbers and pictures that were shown, the newest first
  abbrev pub shown : List (ReceiverCall S) → List (ℕ × Picture)
  shown past = filter_map shown_in past

  -- the greatest floor of a fragment taken, or 1
  abbrev pub floor : List (ReceiverCall S) → ℕ
  floor past = floor_of (taken past)

  -- the greatest moment of a call that wasn't refused
  abbrev pub now : List (ReceiverCall S) → ℕ
  now [] = 0
  now (call ∷ past) = max (moment_in call) (now past)

  -- the session of the first fragment or end
  abbrev pub session : List (ReceiverCall S) → Option ℕ
  session [] = None
  session (call ∷ past) = or_else (session past) (session_in call)

  -- the size and rate of the first fragment
  abbrev pub head : List (ReceiverCall S) → Option Head
  head [] = None
  head (call ∷ past) = or_else (head past) (head_in call)

  -- the arrivals of fragments at the moments that the receiver then had, the newest first
  abbrev pub arrivals : List (ReceiverCall S) → List Arrival
  arrivals [] = []
  arrivals (call ∷ past) = with_arrival (fragment_in call) (now (call ∷ past)) (arrivals past)
    where
      with_arrival : Option FragmentFields → ℕ → List Arrival → List Arrival
      with_arrival None moment before = before
      with_arrival (Some e) moment before = arrival_of e moment ∷ before
