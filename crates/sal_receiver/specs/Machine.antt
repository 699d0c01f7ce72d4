-- What a receiver keeps, and the calls that it stands for.
use Rattle.std.specs.Prelude.{◌≡◌, ℕ, max, Bool, true, false, List, Option, Some, None}
use Rattle.std.specs.Option.{option_map}
use Rattle.sal_codec.specs.Coding.{Coding}
use Rattle.sal_wire.specs.Fields.{FragmentFields}
use Rattle.sal_reasm.specs.declared.answers.Offered.{Offered}
use Rattle.sal_reasm.specs.declared.answers.Offered.TheVariants.{Stale, Clash, Repeat, Complete, Kept}
use Rattle.sal_reasm.specs.Complete.{is_complete, with_fragment}
use Rattle.sal_reasm.specs.Offer.{offer_answer}
use Rattle.sal_reasm.specs.SlotTable.{SlotTable}
use Rattle.sal_reasm.specs.Stands.{SlotsStand}
use Rattle.sal_budget.specs.Gap.{gap_after}
use Rattle.sal_chain.specs.StateTable.{StateTable, floor_raised}
use Rattle.sal_chain.specs.Held.{not_below}
use Rattle.sal_receiver.specs.declared.session_state.SessionState.{SessionState}
use Rattle.sal_receiver.specs.declared.pending_frame.Stage.{Stage}
use Rattle.sal_receiver.specs.declared.pending_frame.Stage.TheVariants as stages
use Rattle.sal_receiver.specs.declared.pending_frame.PendingFrame.{PendingFrame}
use Rattle.sal_receiver.specs.Past.{ReceiverCall, taken, shown, floor, now, session, head, arrivals}
use Rattle.sal_receiver.specs.Held.{held, state_among}
use Rattle.sal_receiver.specs.Known.{known_after}
use Rattle.sal_receiver.specs.Ready.{ready_source, frame, source_name, target_name, is_out, is_decided}
use Rattle.sal_receiver.specs.Answers.{last_shown}
use Rattle.sal_receiver.specs.Promises.{IsLegalReceiver}
use Rattle.sal_receiver.specs.Pending.{at, frame_inserted, left_from, Rises}

-- what a receiver keeps; states stand for shares of them
pub record ReceiverState (S : Type 0) : Type 0 where
  pub known : SessionState
  -- the fragments at or above the floor
  pub slots : SlotTable
  -- the floor, and the states held besides the initial one
  pub store : StateTable S
  -- the complete frames that aren't decided
  pub frames : List (PendingFrame S)
  -- the greatest number shown
  pub last : ℕ

-- how far a frame has come: whether it is out, whether it is decided, from which state it is ready, whether it is complete
abbrev pub stage_of : {S : Type 0} → Bool → Bool → Option S → Bool → List ℕ → Option (Stage S)
stage_of true decided ready_source complete bytes = Some stages.Decoding
stage_of false true ready_source complete bytes = None
stage_of false false (Some source) complete bytes = Some (stages.Ready source bytes)
stage_of false false None true bytes = Some (stages.Complete bytes)
stage_of false false None false bytes = None

abbrev pub pending_as : {S : Type 0} → ℕ → List ℕ → List ℕ → Stage S → PendingFrame S
pending_as n source target stage = record { number = n; source = record { 0 = source }; target = record { 0 = target }; stage = stage }

-- how far a frame has come that is complete now, where this state of its source's name is held
abbrev pub new_stage : {S : Type 0} → Option S → List ℕ → Stage S
new_stage None bytes = stages.Complete bytes
new_stage (Some source) bytes = stages.Ready source bytes

abbrev pub new_pending : {S : Type 0} → FragmentFields → Option S → List ℕ → PendingFrame S
new_pending e found bytes = pending_as e.number e.source e.target (new_stage found bytes)

-- the frames after this answer of the slots to a fragment
abbrev pub entered : {S : Type 0} → Offered → FragmentFields → Option S → List (PendingFrame S) → List (PendingFrame S)
entered Stale e found frames = frames
entered (Clash field kept new) e found frames = frames
entered Repeat e found frames = frames
entered (Complete bytes) e found frames = frame_inserted (new_pending e found bytes) frames
entered Kept e found frames = frames

-- what a fragment that is taken leaves
pub record IsEntered {S : Type 0} (initial : S) (old new : ReceiverState S) (e : FragmentFields) (moment : ℕ) (taken : List FragmentFields) : Type 0 where
  pub known : new.known ≡ known_after e moment old.known
  pub slots : SlotsStand new.slots (with_fragment e taken)
  pub store : new.store ≡ floor_raised e.floor old.store
  pub frames : new.frames ≡ entered (offer_answer taken e) e (state_among initial e.source (not_below (max old.store.floor e.floor) old.store.kept)) (left_from (max old.store.floor e.floor) old.frames)
  pub last : new.last ≡ old.last

module _ {S : Type 0} (codec : Coding S) where
  -- what is kept of a number's frame
  abbrev pub stage_in : List (ReceiverCall S) → ℕ → Option (Stage S)
  stage_in past n = stage_of (is_out past n) (is_decided past n) (ready_source codec past n) (is_complete (taken past) n) (frame past n)

  abbrev pub pending : List (ReceiverCall S) → ℕ → Option (PendingFrame S)
  pending past n = option_map (pending_as n (source_name past n) (target_name past n)) (stage_in past n)

  -- the receiver is as these calls leave it
  pub record ReceiverStands (r : ReceiverState S) (past : List (ReceiverCall S)) : Type 0 where
    pub legal : IsLegalReceiver codec past
    pub session : r.known.session ≡ session past
    pub head : r.known.head ≡ head past
    pub moment : r.known.moment ≡ now past
    pub gap : r.known.gap ≡ gap_after (arrivals past)
    pub slots : SlotsStand r.slots (taken past)
    pub floor : r.store.floor ≡ floor past
    pub kept : r.store.kept ≡ held codec past
    pub order : Rises 0 r.frames
    pub frames : (n : ℕ) → at n r.frames ≡ pending past n
    pub last : r.last ≡ last_shown (shown past)
