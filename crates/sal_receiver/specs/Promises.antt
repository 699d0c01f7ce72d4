-- What holds of every past of a receiver, whatever came in whatever order.
use Rattle.std.specs.Prelude.{◌≡◌, ◌⊎◌, ℕ, ◌<◌, ◌≤◌, Bool, List, [], ◌∷◌, ◌++◌, IsTrue, IsSome}
use Rattle.sal_base.specs.declared.picture.Picture.{Picture}
use Rattle.sal_base.specs.Lists.{Has, Each}
use Rattle.sal_codec.specs.Coding.{Coding}
use Rattle.sal_receiver.specs.declared.answers.Delivered.{Delivered}
use Rattle.sal_receiver.specs.declared.answers.Delivered.TheVariants.{Taken, Refused, Memory}
use Rattle.sal_receiver.specs.declared.answers.Done.{Done}
use Rattle.sal_receiver.specs.declared.answers.Done.TheVariants.{Older, Unfit, Misnamed, Show}
use Rattle.sal_receiver.specs.Past.{ReceiverCall, Deliver, TakeReady, Decoding, DecodeResult, shown}
use Rattle.sal_receiver.specs.Ready.{ready_source, frame, is_ready, is_out, ready_answer, decoding_of}
use Rattle.sal_receiver.specs.Answers.{deliver_answer, decoded_answer}

-- a fragment is taken
abbrev pub IsTaken : Delivered → Type 0
IsTaken (Taken ack) = Unit {0}
IsTaken _ = ⊥

-- a refusal, or want of memory
abbrev pub IsLeftAlone : Delivered → Type 0
IsLeftAlone (Refused cause) = Unit {0}
IsLeftAlone Memory = Unit {0}
IsLeftAlone _ = ⊥

-- a frame that was shown has a smaller number
abbrev pub IsBelow : ℕ → ℕ × Picture → Type 0
IsBelow n seen = seen.0 < n

-- where an answer shows a frame, its number is above every number shown before
abbrev pub ShowsAbove : List (ℕ × Picture) → Done → Type 0
ShowsAbove before (Show n picture) = Each (IsBelow n) before
ShowsAbove before _ = Unit {0}

-- each number is above all that were shown before it; the newest stands first
abbrev pub NumbersRise : List (ℕ × Picture) → Type 0
NumbersRise [] = Unit {0}
NumbersRise ((n, picture) ∷ before) = Each (IsBelow n) before × NumbersRise before

module _ {S : Type 0} where
  abbrev pub WasShown : List (ReceiverCall S) → ℕ → Type 0
  WasShown past n = (picture : Picture) × Has (shown past) (n, picture)

  -- a number at least as great was shown
  abbrev pub WasPassed : List (ReceiverCall S) → ℕ → Type 0
  WasPassed past n = (m : ℕ) × (n ≤ m) × WasShown past m

  -- a decoding of the number was answered that it is older, after a number at least as great was shown
  pub record WasOlder (past : List (ReceiverCall S)) (n : ℕ) : Type 0 where
    pub later : List (ReceiverCall S)
    pub before : List (ReceiverCall S)
    pub outcome : DecodeResult S
    pub number : ℕ
    pub greater : ℕ
    pub past_is : past ≡ later ++ Decoding n outcome (Older number greater) ∷ before
    pub passed : WasPassed before n

  -- no decoding was refused
  abbrev pub IsFit : ReceiverCall S → Type 0
  IsFit (Decoding n outcome (Unfit m why)) = ⊥
  IsFit (Decoding n outcome (Misnamed said found)) = ⊥
  IsFit _ = Unit {0}

  abbrev pub AreFit : List (ReceiverCall S) → Type 0
  AreFit [] = Unit {0}
  AreFit (call ∷ past) = IsFit call × AreFit past

module _ {S : Type 0} (codec : Coding S) where
  -- a decoding is that of the frame that was handed out, or there was no memory for it
  abbrev pub IsItsDecoding : List (ReceiverCall S) → ℕ → DecodeResult S → Type 0
  IsItsDecoding past n outcome = (ran : Bool) × (outcome ≡ decoding_of codec (ready_source codec past n) (frame past n) ran)

  -- a call may be answered so after a past; memory is taken last, and a decoding is own work where its number is out
  abbrev pub ReceiverAnswers : ReceiverCall S → List (ReceiverCall S) → Type 0
  ReceiverAnswers (Deliver came moment answer) past = (answer ≡ deliver_answer codec past came moment) ⊎ ((answer ≡ Memory) × IsTaken (deliver_answer codec past came moment))
  ReceiverAnswers (TakeReady answer) past = answer ≡ ready_answer codec past
  ReceiverAnswers (Decoding n outcome answer) past = (answer ≡ decoded_answer codec past n outcome) × (IsTrue (is_out past n) → IsItsDecoding past n outcome)

  -- each call was answered so after the calls before it
  abbrev pub IsLegalReceiver : List (ReceiverCall S) → Type 0
  IsLegalReceiver [] = Unit {0}
  IsLegalReceiver (call ∷ past) = ReceiverAnswers call past × IsLegalReceiver past

  -- a ready frame waits to be handed out, or is out, or was shown, or was answered that a number at least as great was
  abbrev pub IsServed : List (ReceiverCall S) → ℕ → Type 0
  IsServed past n = IsTrue (is_ready codec past n) ⊎ (IsTrue (is_out past n) ⊎ (WasShown past n ⊎ WasOlder past n))

  abbrev pub ReadyIsServed : List (ReceiverCall S) → Type 0
  ReadyIsServed past = (n : ℕ) → IsSome (ready_source codec past n) → IsServed past n

  -- a machine that stood for a past answered the call as it may after it, and stands for the past with the call
  abbrev pub ReceiverAnswered : {M : Type 0} → (M → List (ReceiverCall S) → Type 0) → M → M → ReceiverCall S → Type 0
  ReceiverAnswered stands old new call = (past : List (ReceiverCall S)) → stands old past → ReceiverAnswers call past × stands new (call ∷ past)
