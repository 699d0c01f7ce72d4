-- A frame that is handed out, and its decoding.
use Rattle.std.specs.Prelude.{◌≡◌, ℕ, Bool, List, Some, IsTrue, IsOk}
use Rattle.std.specs.Arc.{arc_value}
use Rattle.std.specs.declared.sync.Arc.{Arc}
use Rattle.sal_receiver.specs.declared.pending_frame.DecodeTask.{DecodeTask}
use Rattle.sal_codec.specs.Coding.{Coding}
use Rattle.sal_receiver.specs.Past.{ReceiverCall, DecodeResult, NoMemory}
use Rattle.sal_receiver.specs.Ready.{ready_source, frame, target_name, is_out, decoding_of}

-- a frame to be decoded from a state
pub record HandedFrame (S : Type 0) : Type 0 where
  pub number : ℕ
  pub target : List ℕ
  pub source : S
  pub bytes : List ℕ

abbrev pub number_of : {S : Type 0} → HandedFrame S → ℕ
number_of h = h.number

-- a share seen as what it shares
abbrev pub handed_as : {S Z : Type 0} → DecodeTask (Arc S Z) → HandedFrame S
handed_as t = record { number = t.number; target = t.target.0; source = arc_value t.source; bytes = t.bytes }

-- a frame that was handed out, and what came of decoding it
pub record DecodedFrame (S : Type 0) : Type 0 where
  pub handed : HandedFrame S
  pub outcome : DecodeResult S

module _ {S : Type 0} (codec : Coding S) where
  -- the codec's decoding of the frame from its source, or want of memory, which comes only where the bytes are a frame of the source
  abbrev pub IsRun : HandedFrame S → DecodeResult S → Type 0
  IsRun h outcome = (ran : Bool) × (outcome ≡ decoding_of codec (Some h.source) h.bytes ran) × (outcome ≡ NoMemory → IsOk (codec.decode h.source h.bytes))

  -- the frame of its number, from the state from which it is ready
  pub record IsReadyFrame (past : List (ReceiverCall S)) (h : HandedFrame S) : Type 0 where
    pub target : target_name past h.number ≡ h.target
    pub source : ready_source codec past h.number ≡ Some h.source
    pub bytes : frame past h.number ≡ h.bytes

  -- own work: where its number is out, it is the frame that was handed out
  abbrev pub IsHandedOut : List (ReceiverCall S) → HandedFrame S → Type 0
  IsHandedOut past h = IsTrue (is_out past h.number) → IsReadyFrame past h
