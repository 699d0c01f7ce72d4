-- What every event keeps: what stands of the sender, of a receiver behind it, and of the acknowledgements between them.
use Rattle.std.specs.Prelude.{◌≡◌, ◌⊎◌, ℕ, ◌+◌, ◌≤◌, true, List, ◌∷◌, length, Some, Ok}
use Rattle.sal_base.specs.declared.name.Name.{Name}
use Rattle.sal_base.specs.Lists.{Has, Each}
use Rattle.sal_codec.specs.Coding.{Coding, Made}
use Rattle.sal_wire.specs.Fields.{FragmentFields}
use Rattle.sal_wire.specs.Message.{FragmentMessage}
use Rattle.sal_wire.specs.Layout.{FitsAck, IsAck}
use Rattle.sal_wire.specs.declared.datagram.Ack.{Ack}
use Rattle.sal_reasm.specs.Complete.{has_all, fragments_of}
use Rattle.sal_chain.specs.declared.stored_state.StoredState.{StoredState}
use Rattle.sal_sender.specs.declared.choice.Choice.{Choice}
use Rattle.sal_sender.specs.Past.{Past, choices, pictures, tip}
use Rattle.sal_sender.specs.Past.{floor as sender_floor}
use Rattle.sal_chain.specs.Held.{name_in}
use Rattle.sal_sender.specs.Chain.{state_at, made_at}
use Rattle.sal_sender.specs.OneThread.{Session, one_thread}
use Rattle.sal_sender.specs.Acks.{acknowledged}
use Rattle.sal_sender.specs.Sound.{IsSound}
use Rattle.sal_receiver.specs.Past.{ReceiverCall, Deliver, taken, shown}
use Rattle.sal_receiver.specs.Past.{floor as receiver_floor}
use Rattle.sal_receiver.specs.Promises.{AreFit, IsTaken}
use Rattle.sal_receiver.specs.Held.{decoded}
use Rattle.sal_receiver.specs.Ready.{ready_source, frame, target_name}
use Rattle.sal_world.specs.World.{WorldEvent, WorldPast, acks_of, after}
use Rattle.sal_world.specs.Promises.{choice_at, IsDecoding, IsSession, HasSize, IsOfSize, IsHeardOrOldIn, NamesDifferIn}

-- the floor is at least 1 and at most one above the tip, and the tip stands at most 15 above it
pub record IsWindow (past : Past) : Type 0 where
  pub some : 1 ≤ sender_floor past
  pub low : sender_floor past ≤ tip past + 1
  pub high : tip past ≤ sender_floor past + 15

module _ {S : Type 0} (codec : Coding S) (session : Session) where
  -- all fragments that were sent
  abbrev pub fragments : Past → List FragmentFields
  fragments s = one_thread codec session (pictures s) (choices s)

  -- each datagram that came was sent, and was taken
  abbrev pub IsOfSentFragment : Past → ReceiverCall S → Type 0
  IsOfSentFragment s (Deliver came moment answer) = (e : FragmentFields) × Has (fragments s) e × (came ≡ Ok (FragmentMessage e)) × IsTaken answer
  IsOfSentFragment s _ = Unit {0}

  -- a held state is that of its number, which stands at most 15 above the receiver's floor
  pub record IsStateOfNumber (s : Past) (r : List (ReceiverCall S)) (k : StoredState S) : Type 0 where
    pub some : 1 ≤ k.number
    pub chosen : k.number ≤ tip s
    pub near : k.number ≤ receiver_floor r + 15
    pub state : k.state ≡ state_at codec s k.number
    pub name : k.name.0 ≡ name_in codec k.state

  -- a ready frame is that of its number, from the state of its source
  pub record IsFrameOfNumber (s : Past) (r : List (ReceiverCall S)) (n : ℕ) (source : S) : Type 0 where
    pub choice : Choice
    pub chosen : choice_at (choices s) n ≡ Some choice
    pub from_source : source ≡ state_at codec s choice.source
    pub made : Made S
    pub is_made : made_at codec (pictures s) (choices s) n ≡ Some made
    pub whole : has_all (fragments_of n (taken r)) ≡ true
    pub bytes : frame r n ≡ made.bytes
    pub target : target_name r n ≡ name_in codec made.target

  -- a number that an acknowledgement names has that name
  abbrev pub NamesItsState : Past → ℕ × Name → Type 0
  NamesItsState s (n, name) = (n ≤ tip s) × (name.0 ≡ name_in codec (state_at codec s n))

  -- an acknowledgement is one that can be spelled, of this session, and says what was sent
  pub record IsAckOfSent (s : Past) (ack : Ack) : Type 0 where
    pub own : ack.session ≡ session.number
    pub sent : ack.serial ≤ length (fragments s)
    pub fits : FitsAck ack
    pub is : IsAck ack
    pub states : Each (NamesItsState s) ack.held

  -- a number that an acknowledgement names is held still, or stands below the receiver's floor
  abbrev pub IsHeldOrPassed : List (ReceiverCall S) → ℕ → Type 0
  IsHeldOrPassed r n = receiver_floor r ≤ n → (k : StoredState S) × Has (decoded codec r) k × (k.number ≡ n)

  -- a number was named by an acknowledgement of the receiver
  abbrev pub WasAcked : List (ReceiverCall S) → ℕ → Type 0
  WasAcked r n = (ack : Ack) × Has (acks_of r) ack × (name : Name) × Has ack.held (n, name)

  -- what stands of the sender: its floor and tip, its choices' floors and sources and those of the open jobs, and its pictures
  pub record SenderInvariant (s : Past) : Type 0 where
    pub window : IsWindow s
    pub sound : IsSound s
    pub sizes : Each (HasSize session) (pictures s)

  -- what stands of a receiver behind a sender
  pub record ReceiverInvariant (s : Past) (r : List (ReceiverCall S)) : Type 0 where
    pub delivered : Each (IsOfSentFragment s) r
    -- its floor is 1 or that of a sent fragment
    pub floor : (receiver_floor r ≡ 1) ⊎ ((e : FragmentFields) × Has (fragments s) e × (e.floor ≡ receiver_floor r))
    pub behind : receiver_floor r ≤ sender_floor s
    -- each fragment kept, each state held, each picture shown and each frame ready
    pub parts : Each (Has (fragments s)) (taken r)
    pub held : Each (IsStateOfNumber s r) (decoded codec r)
    pub fit : AreFit r
    pub seen : Each (λ x. IsDecoding codec s x.0 x.1) (shown r)
    pub frames : (n : ℕ) (source : S) → ready_source codec r n ≡ Some source → IsFrameOfNumber s r n source

  -- what stands of the acknowledgements between a sender and a receiver: what came back, what was said, and each number
  -- that is acknowledged
  pub record AckInvariant (s : Past) (r : List (ReceiverCall S)) : Type 0 where
    pub heard : Each IsHeardOrOldIn s
    pub acks : Each (IsAckOfSent s) (acks_of r)
    pub named : Each (λ ack. Each (λ held. IsHeldOrPassed r held.0) ack.held) (acks_of r)
    pub acked : Each (WasAcked r) (acknowledged s)

  pub record Invariant (w : WorldPast S) : Type 0 where
    pub sender : SenderInvariant w.sender
    pub receiver : ReceiverInvariant w.sender w.receiver
    pub acks : AckInvariant w.sender w.receiver

  -- it holds after every list of events, where names differ
  abbrev pub HoldsEverywhere : Type 0
  HoldsEverywhere =
      IsSession session → (events : List WorldEvent) → Each (IsOfSize session) events → NamesDifferIn codec (after codec session events) → Invariant (after codec session events)

  -- each event keeps it, while names differ
  abbrev pub IsKept : Type 0
  IsKept =
      IsSession session → (event : WorldEvent) (events : List WorldEvent) → IsOfSize session event → NamesDifferIn codec (after codec session (event ∷ events)) → Invariant (after codec session events) → Invariant (after codec session (event ∷ events))
