-- What an acknowledgement is answered, in the words of what the sender keeps.
use Rattle.std.specs.Prelude.{ℕ, Bool, ◌&&◌, not, ◌==◌, List, [], ◌∷◌, map, Option, Some, None, nat_lt, nat_le, if◌then◌else◌}
use Rattle.sal_base.specs.declared.name.Name.{Name}
use Rattle.sal_base.specs.Names.{same}
use Rattle.sal_chain.specs.declared.stored_state.StoredState.{StoredState}
use Rattle.sal_chain.specs.Held.{with_number}
use Rattle.sal_sender.specs.declared.answers.Ignore.{Ignore}
use Rattle.sal_sender.specs.declared.answers.Ignore.TheVariants.{Session as OtherSession, Serial, Unsent, Name as OtherName}
use Rattle.sal_sender.specs.declared.answers.HeardAck.{HeardAck}
use Rattle.sal_sender.specs.declared.answers.HeardAck.TheVariants.{Heard, Ignored}
use Rattle.sal_wire.specs.declared.datagram.Ack.{Ack}
use Rattle.sal_sender.specs.Choosing.{first_some}
use Rattle.sal_sender.specs.Answers.{fresh, unless_wrong}
use Rattle.sal_sender.specs.AckState.{with_ack}
use Rattle.sal_sender.specs.Machine.{Machine}
use Rattle.sal_sender.specs.declared.sent_frame.SentFrame.{SentFrame}
use Rattle.sal_sender.specs.SentFrames.{is_acknowledged_in, acknowledged_by}

-- the fault of a frame number whose own name is another one
abbrev pub against : {S : Type 0} → ℕ × Name → Option (StoredState S) → Option Ignore
against h None = None
against h (Some k) = if same k.name.0 h.1.0 then None else Some (OtherName h.0 k.name h.1)

-- a frame number that wasn't sent, or a name that isn't its state's
abbrev pub unsent_or_misnamed_in : {S : Type 0} → ℕ → List (StoredState S) → ℕ × Name → Option Ignore
unsent_or_misnamed_in tip kept h = if nat_lt tip h.0 then Some (Unsent h.0) else against h (with_number h.0 kept)

-- the first fault among those at or above the floor
unfoldable pub first_wrong_in : {S : Type 0} → ℕ → ℕ → List (StoredState S) → List (ℕ × Name) → Option Ignore
first_wrong_in floor tip kept [] = None
first_wrong_in floor tip kept (h ∷ more) =
    if nat_le floor h.0 then first_some (unsent_or_misnamed_in tip kept h) (first_wrong_in floor tip kept more)
    else first_wrong_in floor tip kept more

-- at or above the floor, and not acknowledged before
abbrev pub is_new_in : List SentFrame → ℕ → ℕ × Name → Bool
is_new_in sent_frames floor h = nat_le floor h.0 && not (is_acknowledged_in sent_frames h.0)

-- the frame numbers at or above the floor that were not acknowledged before
abbrev pub newly_in : List SentFrame → ℕ → List (ℕ × Name) → List ℕ
newly_in sent_frames floor [] = []
newly_in sent_frames floor (h ∷ more) = if is_new_in sent_frames floor h then h.0 ∷ newly_in sent_frames floor more else newly_in sent_frames floor more

-- what an acknowledgement is answered, by what the sender keeps
abbrev pub ack_answer_in : {S : Type 0} → Machine S → Ack → HeardAck
ack_answer_in m ack =
    if not (ack.session == m.session.number) then Ignored OtherSession
    else if nat_lt m.sent ack.serial then Ignored (Serial m.sent ack.serial)
    else unless_wrong (first_wrong_in m.floor m.tip m.store.kept ack.held) (fresh m.acks.heard ack.serial (newly_in m.sent_frames m.floor ack.held))

-- what the sender keeps after an answer
abbrev pub after_ack : {S : Type 0} → Machine S → Ack → ℕ → HeardAck → Machine S
after_ack m ack moment (Heard numbers) = record m { sent_frames = map (acknowledged_by ack.held) m.sent_frames; acks = with_ack ack.serial ack.gap moment m.acks }
after_ack m ack moment (Ignored why) = m
