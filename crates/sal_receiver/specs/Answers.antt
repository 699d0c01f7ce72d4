-- What the receiver's calls are answered.
use Rattle.std.specs.Prelude.{ℕ, max, Bool, false, ◌&&◌, not, List, [], ◌∷◌, map, Option, Some, None, Result, Ok, Err, ◌==◌, nat_le, if◌then◌else◌}
use Rattle.sal_y4m.specs.declared.head.Head.{Head}
use Rattle.sal_base.specs.declared.picture.Picture.{Picture}
use Rattle.sal_base.specs.Names.{same}
use Rattle.sal_codec.specs.Coding.{Coding}
use Rattle.sal_wire.specs.declared.fault.WireFault.{WireFault}
use Rattle.sal_wire.specs.declared.datagram.Ack.{Ack}
use Rattle.sal_wire.specs.Fields.{FragmentFields}
use Rattle.sal_wire.specs.Message.{Message, FragmentMessage, AckMessage, ByeMessage}
use Rattle.sal_reasm.specs.Complete.{floor_of, with_fragment}
use Rattle.sal_reasm.specs.Offer.{Difference, clash_with_taken}
use Rattle.sal_budget.specs.declared.gap.Gap.{Gap}
use Rattle.sal_budget.specs.Gap.{gap_after}
use Rattle.sal_chain.specs.declared.stored_state.StoredState.{StoredState}
use Rattle.sal_chain.specs.Held.{in_order, not_below, number_and_name}
use Rattle.sal_receiver.specs.declared.answers.Delivered.{Delivered}
use Rattle.sal_receiver.specs.declared.answers.Delivered.TheVariants.{Taken, Ended, Refused}
use Rattle.sal_receiver.specs.declared.answers.Refuse.{Refuse}
use Rattle.sal_receiver.specs.declared.answers.Refuse.TheVariants.{Wire, Kind, Session, Size, Clash}
use Rattle.sal_receiver.specs.declared.answers.Done.{Done}
use Rattle.sal_receiver.specs.declared.answers.Done.TheVariants.{Stranger, Returned, Unfit, Misnamed, Older, Show}
use Rattle.sal_receiver.specs.declared.answers.Misfit.TheVariants.{Fault}
use Rattle.sal_receiver.specs.declared.answers.Misfit.TheVariants.{Size as OtherSize}
use Rattle.sal_receiver.specs.Past.{ReceiverCall, DecodeResult, Sound, Faulty, NoMemory, taken, shown, now, session, head, head_of, arrivals, arrival_of}
use Rattle.sal_chain.specs.Held.{name_in}
use Rattle.sal_receiver.specs.Held.{decoded}
use Rattle.sal_receiver.specs.Ready.{is_out, target_name}

abbrev pub same_head : Head → Head → Bool
same_head a b = a.width == b.width && a.height == b.height && a.rate.0 == b.rate.0 && a.rate.1 == b.rate.1

-- whether a session is another one than the one that is known
abbrev pub is_other : Option ℕ → ℕ → Bool
is_other None number = false
is_other (Some known) number = not (known == number)

-- the greatest number shown, 0 before any
abbrev pub last_shown : List (ℕ × Picture) → ℕ
last_shown [] = 0
last_shown ((n, picture) ∷ before) = n

-- the causes for which a fragment is left alone
abbrev pub session_cause : Option ℕ → ℕ → Option Refuse
session_cause known number = if is_other known number then Some Session else None

abbrev pub size_cause : Option Head → Head → Option Refuse
size_cause None new = None
size_cause (Some own) new = if same_head own new then None else Some (Size own new)

abbrev pub clash_cause : Option Difference → Option Refuse
clash_cause None = None
clash_cause (Some (field, kept, new)) = Some (Clash field kept new)

-- the first of these that holds
abbrev pub first_of : Option Refuse → Option Refuse → Option Refuse
first_of None second = second
first_of (Some cause) second = Some cause

abbrev pub refusal : Option ℕ → Option Head → List FragmentFields → FragmentFields → Option Refuse
refusal session head taken e =
    first_of (session_cause session e.session) (first_of (size_cause head (head_of e)) (clash_cause (clash_with_taken taken e)))

abbrev pub unless_refused : Option Refuse → Delivered → Delivered
unless_refused None answer = answer
unless_refused (Some cause) answer = Refused cause

abbrev pub has_size : Option Head → Picture → Bool
has_size None picture = false
has_size (Some own) picture = picture.width == own.width && picture.height == own.height

-- what says the greatest serial, the average gap, and the states held
abbrev pub ack_saying : {S : Type 0} → ℕ → Gap → List (StoredState S) → Ack
ack_saying session gap kept = record { session = session; serial = gap.greatest; gap = gap.average; held = map number_and_name kept }

module _ {S : Type 0} (codec : Coding S) where
  -- what is held after a fragment, before its frame is decoded
  abbrev pub held_at_fragment : List (ReceiverCall S) → FragmentFields → List (StoredState S)
  held_at_fragment past e = in_order (not_below (floor_of (with_fragment e (taken past))) (decoded codec past))

  -- the acknowledgement after a fragment
  abbrev pub ack_after : List (ReceiverCall S) → FragmentFields → ℕ → Ack
  ack_after past e moment = ack_saying e.session (gap_after (arrival_of e (max moment (now past)) ∷ arrivals past)) (held_at_fragment past e)

  -- what a datagram is answered, but for want of memory
  abbrev pub deliver_answer : List (ReceiverCall S) → Result Message WireFault → ℕ → Delivered
  deliver_answer past (Err fault) moment = Refused (Wire fault)
  deliver_answer past (Ok (AckMessage ack)) moment = Refused Kind
  deliver_answer past (Ok (ByeMessage number last)) moment = unless_refused (session_cause (session past) number) (Ended last)
  deliver_answer past (Ok (FragmentMessage e)) moment = unless_refused (refusal (session past) (head past) (taken past) e) (Taken (ack_after past e moment))

  abbrev pub sound_answer : List (ReceiverCall S) → ℕ → S → Picture → Done
  sound_answer past n state picture =
      if not (has_size (head past) picture) then Unfit n (OtherSize picture.width picture.height)
      else if not (same (name_in codec state) (target_name past n)) then Misnamed (record { 0 = target_name past n }) (record { 0 = name_in codec state })
      else if nat_le n (last_shown (shown past)) then Older n (last_shown (shown past))
      else Show n picture

  abbrev pub outcome_answer : List (ReceiverCall S) → ℕ → DecodeResult S → Done
  outcome_answer past n NoMemory = Returned n
  outcome_answer past n (Faulty fault) = Unfit n (Fault fault)
  outcome_answer past n (Sound state picture) = sound_answer past n state picture

  -- what a decoding is answered
  abbrev pub decoded_answer : List (ReceiverCall S) → ℕ → DecodeResult S → Done
  decoded_answer past n outcome = if not (is_out past n) then Stranger else outcome_answer past n outcome
