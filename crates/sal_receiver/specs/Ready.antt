-- Which frames are ready, and from which state.
use Rattle.std.specs.Prelude.{ℕ, min, Bool, true, false, ◌&&◌, ◌||◌, not, List, [], ◌∷◌, map, filter, Option, Some, None, is_some, Result, Ok, Err, ◌==◌, if◌then◌else◌}
use Rattle.std.specs.List.{list_any}
use Rattle.sal_base.specs.declared.coding.Fault.{Fault}
use Rattle.sal_base.specs.declared.coding.Decoded.{Decoded}
use Rattle.sal_codec.specs.Coding.{Coding}
use Rattle.sal_wire.specs.Fields.{FragmentFields}
use Rattle.sal_reasm.specs.Complete.{fragments_of, is_complete, frame_bytes}
use Rattle.sal_reasm.specs.Offer.{or_else}
use Rattle.sal_receiver.specs.declared.answers.Done.TheVariants.{Stranger, Unfit, Misnamed, Show, Older}
use Rattle.sal_receiver.specs.Past.{ReceiverCall, TakeReady, Decoding, DecodeResult, Sound, Faulty, NoMemory, taken}
use Rattle.sal_receiver.specs.Held.{held_under}

abbrev pub source_in : List FragmentFields → List ℕ
source_in [] = []
source_in (e ∷ more) = e.source

abbrev pub target_in : List FragmentFields → List ℕ
target_in [] = []
target_in (e ∷ more) = e.target

abbrev pub smaller : ℕ → Option ℕ → ℕ
smaller n None = n
smaller n (Some m) = min n m

-- the least of some numbers
abbrev pub least : List ℕ → Option ℕ
least [] = None
least (n ∷ more) = Some (smaller n (least more))

module _ {S : Type 0} where
  -- the names of a frame's source and target, and its bytes
  abbrev pub source_name : List (ReceiverCall S) → ℕ → List ℕ
  source_name past n = source_in (fragments_of n (taken past))

  abbrev pub target_name : List (ReceiverCall S) → ℕ → List ℕ
  target_name past n = target_in (fragments_of n (taken past))

  abbrev pub frame : List (ReceiverCall S) → ℕ → List ℕ
  frame past n = frame_bytes (taken past) n

  -- whether a frame was handed out and is not reported since
  abbrev pub is_out : List (ReceiverCall S) → ℕ → Bool
  is_out [] n = false
  is_out (call ∷ past) n = after call (is_out past n)
    where
      after : ReceiverCall S → Bool → Bool
      after (TakeReady (Some m)) out = m == n || out
      after (Decoding m outcome Stranger) out = out
      after (Decoding m outcome answer) out = not (m == n) && out
      after _ out = out

  -- whether a call is a decoding that decided the number
  abbrev pub decides : ℕ → ReceiverCall S → Bool
  decides n (Decoding m outcome (Unfit k why)) = m == n
  decides n (Decoding m outcome (Misnamed said found)) = m == n
  decides n (Decoding m outcome (Older k greater)) = m == n
  decides n (Decoding m outcome (Show k picture)) = m == n
  decides n _ = false

  abbrev pub is_decided : List (ReceiverCall S) → ℕ → Bool
  is_decided past n = list_any (decides n) past

module _ {S : Type 0} (codec : Coding S) where
  -- the held state of the source's name, where the frame is complete
  abbrev pub source_now : List (ReceiverCall S) → ℕ → Option S
  source_now past n = if is_complete (taken past) n then held_under codec past (source_name past n) else None

  -- the state from which the frame is decoded: the one that was held when it first was complete with one held
  unfoldable pub ready_source : List (ReceiverCall S) → ℕ → Option S
  ready_source [] n = None
  ready_source (call ∷ past) n = or_else (ready_source past n) (source_now (call ∷ past) n)

  -- whether a frame waits to be handed out
  abbrev pub is_ready : List (ReceiverCall S) → ℕ → Bool
  is_ready past n = is_some (ready_source past n) && not (is_out past n) && not (is_decided past n)

  -- the least frame that waits
  abbrev pub ready_answer : List (ReceiverCall S) → Option ℕ
  ready_answer past = least (filter (is_ready past) (map (λ e. e.number) (taken past)))

  abbrev pub outcome_of : Result (Decoded S) Fault → DecodeResult S
  outcome_of (Ok d) = Sound d.state d.picture
  outcome_of (Err fault) = Faulty fault

  -- what comes of decoding a frame that was handed out
  abbrev pub decoding_of : Option S → List ℕ → Bool → DecodeResult S
  decoding_of None bytes ran = NoMemory
  decoding_of (Some source) bytes false = NoMemory
  decoding_of (Some source) bytes true = outcome_of (codec.decode source bytes)
