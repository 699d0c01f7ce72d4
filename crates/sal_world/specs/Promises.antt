-- What holds of the world, whatever is lost, repeated or reordered.
use Rattle.std.specs.Prelude.{◌≡◌, ◌⊎◌, ℕ, ◌<◌, ◌≤◌, ◌^◌, false, List, ◌∷◌, ◌++◌, length, find, Option, Some, IsSome, Ok, ◌==◌}
use Rattle.sal_base.specs.declared.picture.Picture.{Picture}
use Rattle.sal_base.specs.declared.coding.Decoded.{Decoded}
use Rattle.sal_base.specs.Lists.{Has, Each}
use Rattle.sal_codec.specs.Coding.{Coding, Made, HasSides}
use Rattle.sal_sender.specs.declared.outcome.Gave.{Gave}
use Rattle.sal_sender.specs.declared.choice.Choice.{Choice}
use Rattle.sal_sender.specs.declared.answers.Chosen.TheVariants.{Sent}
use Rattle.sal_sender.specs.declared.answers.Reported.TheVariants.{Late}
use Rattle.sal_sender.specs.declared.answers.HeardAck.{HeardAck}
use Rattle.sal_sender.specs.declared.answers.HeardAck.TheVariants.{Heard, Ignored}
use Rattle.sal_sender.specs.declared.answers.Ignore.TheVariants.{Old}
use Rattle.sal_sender.specs.Past.{Past, Choose, Hear, choices, pictures, tip, opened}
use Rattle.sal_sender.specs.Past.{floor as sender_floor}
use Rattle.sal_sender.specs.Past.{SenderCall}
use Rattle.sal_chain.specs.Held.{name_in}
use Rattle.sal_sender.specs.Chain.{state_at, made_at, chain, NamesDiffer}
use Rattle.sal_sender.specs.OneThread.{Session}
use Rattle.sal_sender.specs.Acks.{acknowledged}
use Rattle.sal_sender.specs.Choosing.{reported}
use Rattle.sal_sender.specs.Sound.{IsSound}
use Rattle.sal_sender.specs.Answers.{report_answer}
use Rattle.sal_y4m.specs.Head.{IsHead}
use Rattle.sal_sender.specs.Promises.{IsWhatOneThreadSends, FitsItsBudget}
use Rattle.sal_receiver.specs.Past.{ReceiverCall, Deliver, shown, floor}
use Rattle.sal_receiver.specs.Held.{held_under}
use Rattle.sal_receiver.specs.Promises.{ReadyIsServed, AreFit, IsTaken, WasShown, WasOlder}
use Rattle.sal_receiver.specs.Ready.{ready_source, is_ready, is_out}
use Rattle.sal_world.specs.World.{WorldEvent, Starts, Reports, WorldPast, sent, happens, after}

-- the numbers of a session are those of their types, and its head is one
pub record IsSession (session : Session) : Type 0 where
  pub number : session.number < 2 ^ 32
  pub head : IsHead session.head
  pub pictures : session.head.rate.0 < 2 ^ 32
  pub seconds : session.head.rate.1 < 2 ^ 32

-- a whole picture of the session's size
abbrev pub HasSize : Session → Picture → Type 0
HasSize session picture = HasSides session.head.width session.head.height picture

-- each picture that is started has the session's size
abbrev pub IsOfSize : Session → WorldEvent → Type 0
IsOfSize session (Starts picture) = HasSize session picture
IsOfSize session _ = Unit {0}

-- the choice of this number
abbrev pub choice_at : List Choice → ℕ → Option Choice
choice_at chosen n = find (λ c. c.number == n) chosen

-- ---- what holds of every world, whatever the names of its states are

-- a choice has as many datagrams as it counts
abbrev pub IsCounted : SenderCall → Type 0
IsCounted (Choose moment (Sent choice burst)) = choice.count ≡ length burst
IsCounted _ = Unit {0}

module _ {S : Type 0} (codec : Coding S) (session : Session) where
  -- two pasts of a world have the same chain, with the same tip, floor and states; the same picture is open, with the same
  -- reports; the same was sent; and the receiver is the same
  pub record IsUnchanged (v w : WorldPast S) : Type 0 where
    pub chain : chain v.sender ≡ chain w.sender
    pub tip : tip v.sender ≡ tip w.sender
    pub floor : sender_floor v.sender ≡ sender_floor w.sender
    pub states : (n : ℕ) → state_at codec v.sender n ≡ state_at codec w.sender n
    pub opened : opened v.sender ≡ opened w.sender
    pub reported : (job : ℕ) → reported v.sender job ≡ reported w.sender job
    pub sent : sent v ≡ sent w
    pub receiver : v.receiver ≡ w.receiver

  -- a report that comes after its picture was closed changes none of these
  abbrev pub LateChangesNothing : WorldPast S → Type 0
  LateChangesNothing w = (job : ℕ) (gave : Gave) → report_answer w.sender job ≡ Late → IsUnchanged (happens codec session w (Reports job gave)) w

  -- sent is what one thread sends; each choice fits its budget and counts its datagrams; choices and open jobs are sound; and
  -- a late report changes nothing
  pub record HoldsAlways (w : WorldPast S) : Type 0 where
    pub one_thread : IsWhatOneThreadSends codec session w.sender
    pub budget : FitsItsBudget codec session w.sender
    pub counted : Each IsCounted w.sender
    pub sound : IsSound w.sender
    pub late : LateChangesNothing w

-- ---- what holds where names differ besides

-- a delivery is answered that the datagram was taken
abbrev pub IsTakenIn : {S : Type 0} → ReceiverCall S → Type 0
IsTakenIn (Deliver came moment answer) = IsTaken answer
IsTakenIn _ = Unit {0}

-- an acknowledgement is heard, or is old
abbrev pub IsHeardOrOld : HeardAck → Type 0
IsHeardOrOld (Heard numbers) = Unit {0}
IsHeardOrOld (Ignored Old) = Unit {0}
IsHeardOrOld (Ignored _) = ⊥

abbrev pub IsHeardOrOldIn : SenderCall → Type 0
IsHeardOrOldIn (Hear came moment answer) = IsHeardOrOld answer
IsHeardOrOldIn _ = Unit {0}

-- no datagram is refused, no decoding is unfit or misnamed, and no acknowledgement is ignored but as old
pub record NothingIsRefused {S : Type 0} (w : WorldPast S) : Type 0 where
  pub down : Each IsTakenIn w.receiver
  pub decoded : AreFit w.receiver
  pub up : Each IsHeardOrOldIn w.sender

module _ {S : Type 0} (codec : Coding S) where
  -- the states that differ among the initial one and those of the choices have names that differ
  abbrev pub NamesDifferIn : WorldPast S → Type 0
  NamesDifferIn w = NamesDiffer codec (pictures w.sender) (choices w.sender)

  -- a picture is the reconstruction of a chosen number, and the decoding of its frame from the state of its source
  pub record IsDecoding (s : Past) (n : ℕ) (picture : Picture) : Type 0 where
    pub choice : Choice
    pub chosen : choice_at (choices s) n ≡ Some choice
    pub made : Made S
    pub is_made : made_at codec (pictures s) (choices s) n ≡ Some made
    pub reconstruction : picture ≡ made.recon
    pub decoded : Decoded S
    pub decoding : codec.decode (state_at codec s choice.source) made.bytes ≡ Ok decoded
    pub same_picture : picture ≡ decoded.picture

  -- shown is the decoding
  abbrev pub ShownIsTheDecoding : WorldPast S → Type 0
  ShownIsTheDecoding w = (n : ℕ) (picture : Picture) → Has (shown w.receiver) (n, picture) → IsDecoding w.sender n picture

  -- where a choice's source was acknowledged, a state of that name is held until a floor above the source was taken
  abbrev pub AcknowledgedStaysHeld : WorldPast S → Type 0
  AcknowledgedStaysHeld w =
      (later before : Past) (moment : ℕ) (choice : Choice) (burst : List (List ℕ))
      → w.sender ≡ later ++ Choose moment (Sent choice burst) ∷ before
      → Has (acknowledged before) choice.source
      → floor w.receiver ≤ choice.source
      → IsSome (held_under codec w.receiver (name_in codec (state_at codec w.sender choice.source)))

  -- a ready frame waits, is out, was shown, or was answered that a number at least as great was shown before
  pub record HoldsWhereNamesDiffer (w : WorldPast S) : Type 0 where
    pub shown_is_the_decoding : ShownIsTheDecoding w
    pub served : ReadyIsServed codec w.receiver
    pub stays_held : AcknowledgedStaysHeld w
    pub nothing_refused : NothingIsRefused w

-- ---- all promises

module _ {S : Type 0} (codec : Coding S) (session : Session) where
  pub record Promises (w : WorldPast S) : Type 0 where
    pub always : HoldsAlways codec session w
    pub named : NamesDifferIn codec w → HoldsWhereNamesDiffer codec w

  -- every interleaving of events keeps them
  abbrev pub AllInterleavings : Type 0
  AllInterleavings = IsSession session → (events : List WorldEvent) → Each (IsOfSize session) events → Promises (after codec session events)

-- ---- after the lines of a script

module _ {S : Type 0} (codec : Coding S) where
  -- no frame waits to be handed out, and none is out
  pub record NothingIsLeft (past : List (ReceiverCall S)) : Type 0 where
    pub waits : (n : ℕ) → is_ready codec past n ≡ false
    pub out : (n : ℕ) → is_out past n ≡ false

  -- each ready frame was shown, or was answered that a number at least as great was shown before
  abbrev pub AllIsServed : List (ReceiverCall S) → Type 0
  AllIsServed past = (n : ℕ) → IsSome (ready_source codec past n) → WasShown past n ⊎ WasOlder past n
