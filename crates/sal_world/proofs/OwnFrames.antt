-- A frame that was handed out stays the frame of its number.
use Rattle.std.proofs.Common.{◌≡◌, ℕ, ◌<◌, Bool, true, false, cond, List, [], ◌∷◌, ◌++◌, length, Option, Some, None, is_some, Result, Ok, Err, refl, ap, ◌∙◌, subst, eqb, ltb}
use Rattle.std.proofs.lemmas.Bool.{eqb-true, and_parts, ltb-true}
use Rattle.std.specs.Prelude.{slice_index, if◌then◌else◌, option_and_then}
use Rattle.std.specs.Option.{option_map}
use Rattle.sal_base.specs.Lists.{Each}
use Rattle.sal_codec.specs.Coding.{Coding}
use Rattle.sal_wire.specs.declared.fault.WireFault.{WireFault}
use Rattle.sal_wire.specs.declared.datagram.Ack.{Ack}
use Rattle.sal_wire.specs.Fields.{FragmentFields}
use Rattle.sal_wire.specs.Message.{Message, FragmentMessage, AckMessage, ByeMessage}
use Rattle.sal_wire.specs.Rules.{first_fault, front_tests, fragment_tests}
use Rattle.sal_wire.specs.Parsing.{unless, big_endian_at, fragment_fields, parsed_fragment, parsed_ack, parsed_bye, parsed_as, parsed}
use Rattle.sal_wire.specs.Parsing.{after_tests}
use Rattle.sal_wire.proofs.HeldLemmas.{all_passed}
use Rattle.sal_reasm.specs.Complete.{floor_of, fragments_of, has_all}
use Rattle.sal_reasm.specs.Offer.{or_else, clash_with_fragments}
use Rattle.sal_reasm.specs.Stands.{AreNamed}
use Rattle.sal_receiver.specs.declared.answers.Delivered.{Delivered}
use Rattle.sal_receiver.specs.declared.answers.Delivered.TheVariants.{Taken, Ended, Refused, Memory}
use Rattle.sal_receiver.specs.Past.{ReceiverCall, Deliver, TakeReady, Decoding, taken}
use Rattle.sal_receiver.specs.Ready.{source_now, ready_source, ready_answer}
use Rattle.sal_receiver.specs.Promises.{IsLegalReceiver}
use Rattle.sal_receiver.specs.Handed.{HandedFrame, IsReadyFrame}
use Rattle.sal_receiver.proofs.PartsLemmas.{IsSame, index_there, same_again}
use Rattle.sal_receiver.proofs.Was.{taken_like, ready_whole}
use Rattle.sal_sender.specs.OneThread.{Session}
use Rattle.sal_world.specs.World.{WorldEvent, Starts, TakesJob, Reports, Chooses, Delivers, Hears, TakesReady, Decodes, Passes, WorldPast, sent, acks, at_number, delivered_if_sent, heard_if_sent, happens, after}
use Rattle.sal_world.specs.HandedOut.{frame_from, frame_at, next_frame}
use Rattle.sal_world.proofs.ListLemmas.{some_same}
use Rattle.sal_world.proofs.Legal.{legal}

-- ---- fragments that were read

-- its names have sixteen bytes, and its index is one below its count
pub record IsRead (e : FragmentFields) : Type 0 where
  pub source : length e.source ≡ 16
  pub target : length e.target ≡ 16
  pub index : e.index < e.count

entry_named : (bytes : List ℕ) → (length (fragment_fields bytes).source ≡ 16) × (length (fragment_fields bytes).target ≡ 16)
unfolding fragment_fields
entry_named bytes = (refl, refl)

unless_part : (o : Option WireFault) (d : Message) (e : FragmentFields) → unless o d ≡ Ok (FragmentMessage e) → (o ≡ None) × (d ≡ FragmentMessage e)
unless_part None d e h = (refl, cc)
unless_part (Some f) d e h = absurd (cc)

fragment_read : (bytes : List ℕ) (e : FragmentFields) → parsed_fragment bytes ≡ Ok (FragmentMessage e) → IsRead e
fragment_read bytes e h =
    let parts = unless_part (first_fault (fragment_tests (big_endian_at 2 54 bytes) (fragment_fields bytes))) (FragmentMessage (fragment_fields bytes)) e h in
    let all = all_passed (fragment_tests (big_endian_at 2 54 bytes) (fragment_fields bytes)) parts.0 in
    let own : fragment_fields bytes ≡ e = cc in
    let named = entry_named bytes in
    subst (λ v. IsRead v) own (record { source = named.0; target = named.1; index = ltb-true _ _ (and_parts _ _ all.1.1.0).1 })

kind_read : (a b : Bool) (bytes : List ℕ) (e : FragmentFields) → (if a then parsed_ack bytes else if b then parsed_bye bytes else parsed_fragment bytes) ≡ Ok (FragmentMessage e) → IsRead e
kind_read true b bytes e h = absurd (let p = unless_part _ _ e h in cc)
kind_read false true bytes e h = absurd (let p = unless_part _ _ e h in cc)
kind_read false false bytes e h = fragment_read bytes e h

front_read : (o : Option WireFault) (bytes : List ℕ) (e : FragmentFields) → after_tests o (parsed_as (slice_index bytes 0) bytes) ≡ Ok (FragmentMessage e) → IsRead e
front_read None bytes e h = kind_read (eqb (slice_index bytes 0) 0x41) (eqb (slice_index bytes 0) 0x42) bytes e h
front_read (Some f) bytes e h = absurd (cc)

came_read : (bytes : List ℕ) (e : FragmentFields) → parsed bytes ≡ Ok (FragmentMessage e) → IsRead e
unfolding parsed
came_read bytes e h = front_read (first_fault (front_tests bytes)) bytes e h

with_read : (b : Bool) (e : FragmentFields) (es : List FragmentFields) → IsRead e → Each IsRead es → Each IsRead (cond b es (e ∷ es))
with_read true e es is all = all
with_read false e es is all = (is, all)

named_step : (b : Bool) (e : FragmentFields) (es : List FragmentFields) → IsRead e → AreNamed es → AreNamed (cond b (e ∷ es) es)
named_step true e es is named = (is.source, is.target)
named_step false e es is named = named

named : (n : ℕ) (es : List FragmentFields) → Each IsRead es → AreNamed (fragments_of n es)
named n [] all = tt
named n (e ∷ es) all = named_step (eqb e.number n) e (fragments_of n es) all.0 (named n es all.1)

-- ---- one more fragment

same_parts : (es : List FragmentFields) → IsSame es es
same_parts es = record { source = refl; target = refl; all = refl; bytes = refl }

part_step : (b : Bool) (e : FragmentFields) (es : List FragmentFields) (n : ℕ) → eqb e.number n ≡ b → IsRead e → AreNamed (fragments_of n es) → clash_with_fragments (fragments_of e.number es) e ≡ None → has_all (fragments_of n es) ≡ true → IsSame (cond b (e ∷ fragments_of n es) (fragments_of n es)) (fragments_of n es)
part_step true e es n is read names like all =
    let own : clash_with_fragments (fragments_of n es) e ≡ None = subst (λ (k : ℕ). clash_with_fragments (fragments_of k es) e ≡ None) (eqb-true _ _ is) like in
    same_again e (fragments_of n es) names read.source read.target own (index_there e (fragments_of n es) own read.index all)
part_step false e es n is read names like all = same_parts (fragments_of n es)

taken_step : (b : Bool) (e : FragmentFields) (es : List FragmentFields) (n : ℕ) → IsRead e → AreNamed (fragments_of n es) → cond b None (clash_with_fragments (fragments_of e.number es) e) ≡ None → has_all (fragments_of n es) ≡ true → IsSame (fragments_of n (cond b es (e ∷ es))) (fragments_of n es)
taken_step true e es n read names like all = same_parts (fragments_of n es)
taken_step false e es n read names like all = part_step (eqb e.number n) e es n refl read names like all

module _ {S : Type 0} where
  -- what came, where it is a fragment, was read
  abbrev pub IsReadIn : ReceiverCall S → Type 0
  IsReadIn (Deliver (Ok (FragmentMessage e)) moment answer) = IsRead e
  IsReadIn (Deliver (Ok (AckMessage ack)) moment answer) = Unit {0}
  IsReadIn (Deliver (Ok (ByeMessage session last)) moment answer) = Unit {0}
  IsReadIn (Deliver (Err fault) moment answer) = Unit {0}
  IsReadIn (TakeReady answer) = Unit {0}
  IsReadIn (Decoding n outcome answer) = Unit {0}

  -- ---- fragments that were taken

  call_taken : (call : ReceiverCall S) (past : List (ReceiverCall S)) → IsReadIn call → Each IsRead (taken past) → Each IsRead (taken (call ∷ past))
  call_taken (Deliver (Ok (FragmentMessage e)) moment (Taken ack)) past is all = with_read (ltb e.number (floor_of (taken past))) e (taken past) is all
  call_taken (Deliver (Ok (FragmentMessage e)) moment (Ended last)) past is all = all
  call_taken (Deliver (Ok (FragmentMessage e)) moment (Refused cause)) past is all = all
  call_taken (Deliver (Ok (FragmentMessage e)) moment Memory) past is all = all
  call_taken (Deliver (Ok (AckMessage ack)) moment answer) past is all = all
  call_taken (Deliver (Ok (ByeMessage session last)) moment answer) past is all = all
  call_taken (Deliver (Err fault) moment answer) past is all = all
  call_taken (TakeReady answer) past is all = all
  call_taken (Decoding n outcome answer) past is all = all

module _ {S : Type 0} (codec : Coding S) where
  read_step : (c : Result Message WireFault) (moment : ℕ) (answer : Delivered) → ((e : FragmentFields) → c ≡ Ok (FragmentMessage e) → IsRead e) → IsReadIn {S = S} (Deliver c moment answer)
  read_step (Ok (FragmentMessage e)) moment answer f = f e refl
  read_step (Ok (AckMessage ack)) moment answer f = tt
  read_step (Ok (ByeMessage session last)) moment answer f = tt
  read_step (Err fault) moment answer f = tt

  pub read_in : (bytes : List ℕ) (moment : ℕ) (answer : Delivered) → IsReadIn {S = S} (Deliver (parsed bytes) moment answer)
  read_in bytes moment answer = read_step (parsed bytes) moment answer (came_read bytes)

  -- the fragments of a whole frame say the same after a call
  parts_stay : (call : ReceiverCall S) (past : List (ReceiverCall S)) (n : ℕ) → IsLegalReceiver codec (call ∷ past) → IsReadIn call → Each IsRead (taken past) → has_all (fragments_of n (taken past)) ≡ true → IsSame (fragments_of n (taken (call ∷ past))) (fragments_of n (taken past))
  parts_stay (Deliver (Ok (FragmentMessage e)) moment (Taken ack)) past n is_legal read all whole =
      taken_step (ltb e.number (floor_of (taken past))) e (taken past) n read (named n (taken past) all) (taken_like codec past e moment ack is_legal) whole
  parts_stay (Deliver (Ok (FragmentMessage e)) moment (Ended last)) past n is_legal read all whole = same_parts (fragments_of n (taken past))
  parts_stay (Deliver (Ok (FragmentMessage e)) moment (Refused cause)) past n is_legal read all whole = same_parts (fragments_of n (taken past))
  parts_stay (Deliver (Ok (FragmentMessage e)) moment Memory) past n is_legal read all whole = same_parts (fragments_of n (taken past))
  parts_stay (Deliver (Ok (AckMessage ack)) moment answer) past n is_legal read all whole = same_parts (fragments_of n (taken past))
  parts_stay (Deliver (Ok (ByeMessage session last)) moment answer) past n is_legal read all whole = same_parts (fragments_of n (taken past))
  parts_stay (Deliver (Err fault) moment answer) past n is_legal read all whole = same_parts (fragments_of n (taken past))
  parts_stay (TakeReady answer) past n is_legal read all whole = same_parts (fragments_of n (taken past))
  parts_stay (Decoding m outcome answer) past n is_legal read all whole = same_parts (fragments_of n (taken past))

  else_same : (o p : Option S) (s : S) → o ≡ Some s → or_else o p ≡ Some s
  else_same None p s h = absurd (cc)
  else_same (Some x) p s h = h

  ready_stays : (call : ReceiverCall S) (past : List (ReceiverCall S)) (n : ℕ) (source : S) → ready_source codec past n ≡ Some source → ready_source codec (call ∷ past) n ≡ Some source
  unfolding ready_source
  ready_stays call past n source h = else_same (ready_source codec past n) (source_now codec (call ∷ past) n) source h

  -- a frame that was handed out, and what was taken was read
  pub record IsHandedOut (past : List (ReceiverCall S)) (h : HandedFrame S) : Type 0 where
    pub read : Each IsRead (taken past)
    pub of : IsReadyFrame codec past h

  pub call_handed : (call : ReceiverCall S) (past : List (ReceiverCall S)) (h : HandedFrame S) → IsLegalReceiver codec (call ∷ past) → IsReadIn call → IsHandedOut past h → IsHandedOut (call ∷ past) h
  call_handed call past h is_legal read is =
      let whole : has_all (fragments_of h.number (taken past)) ≡ true = ready_whole codec past h.number is_legal.1 (ap (λ (o : Option S). is_some o) is.of.source) in
      let stay : IsSame (fragments_of h.number (taken (call ∷ past))) (fragments_of h.number (taken past)) = parts_stay call past h.number is_legal read is.read whole in
      record {
        read = call_taken call past read is.read;
        of = record { target = stay.target ∙ is.of.target; source = ready_stays call past h.number h.source is.of.source; bytes = stay.bytes ∙ is.of.bytes };
      }

  -- what is handed out next is the frame of its number
  frame_step : (past : List (ReceiverCall S)) (n : ℕ) (h : HandedFrame S) (o : Option S) → ready_source codec past n ≡ o → option_map (frame_from codec past n) o ≡ Some h → IsReadyFrame codec past h
  frame_step past n h None there e = absurd (cc)
  frame_step past n h (Some source) there e =
      subst (λ v. IsReadyFrame codec past v) (some_same (frame_from codec past n source) h e) (record { target = refl; source = there; bytes = refl })

  next_step : (past : List (ReceiverCall S)) (h : HandedFrame S) (o : Option ℕ) → option_and_then (frame_at codec past) o ≡ Some h → IsReadyFrame codec past h
  next_step past h None e = absurd (cc)
  next_step past h (Some n) e = frame_step past n h (ready_source codec past n) refl e

  next_of : (past : List (ReceiverCall S)) (h : HandedFrame S) → next_frame codec past ≡ Some h → IsReadyFrame codec past h
  next_of past h e = next_step past h (ready_answer codec past) e

module _ {S : Type 0} (codec : Coding S) (session : Session) where
  -- ---- every world

  heard_receiver : (P : List (ReceiverCall S) → Type 0) (w : WorldPast S) (o : Option Ack) → P w.receiver → P (heard_if_sent codec session w o).receiver
  heard_receiver P w None h = h
  heard_receiver P w (Some ack) h = h

  -- what holds of the receiver's calls is kept by one more of them that was read
  Keeps : (List (ReceiverCall S) → Type 0) → Type 0
  Keeps P = (call : ReceiverCall S) (past : List (ReceiverCall S)) → IsLegalReceiver codec (call ∷ past) → IsReadIn call → P past → P (call ∷ past)

  down_keeps : (P : List (ReceiverCall S) → Type 0) → Keeps P → (w : WorldPast S) (o : Option (List ℕ)) → IsLegalReceiver codec (delivered_if_sent codec w o).receiver → P w.receiver → P (delivered_if_sent codec w o).receiver
  unfolding Keeps
  down_keeps P keeps w None is_legal h = h
  down_keeps P keeps w (Some bytes) is_legal h = keeps _ w.receiver is_legal (read_in codec bytes w.moment _) h

  event_keeps : (P : List (ReceiverCall S) → Type 0) → Keeps P → (w : WorldPast S) (event : WorldEvent) → IsLegalReceiver codec (happens codec session w event).receiver → P w.receiver → P (happens codec session w event).receiver
  unfolding Keeps
  event_keeps P keeps w (Starts picture) is_legal h = h
  event_keeps P keeps w TakesJob is_legal h = h
  event_keeps P keeps w (Reports job gave) is_legal h = h
  event_keeps P keeps w Chooses is_legal h = h
  event_keeps P keeps w (Delivers which) is_legal h = down_keeps P keeps w (at_number (sent w) which) is_legal h
  event_keeps P keeps w (Hears which) is_legal h = heard_receiver P w (at_number (acks w) which) h
  event_keeps P keeps w TakesReady is_legal h = keeps _ w.receiver is_legal tt h
  event_keeps P keeps w (Decodes n ran) is_legal h = keeps _ w.receiver is_legal tt h
  event_keeps P keeps w (Passes moment) is_legal h = h

  keeps_later : (P : List (ReceiverCall S) → Type 0) → Keeps P → (later before : List WorldEvent) → P (after codec session before).receiver → P (after codec session (later ++ before)).receiver
  unfolding after
  keeps_later P keeps [] before h = h
  keeps_later P keeps (event ∷ later) before h = event_keeps P keeps (after codec session (later ++ before)) event (legal codec session (event ∷ later ++ before)).receiver (keeps_later P keeps later before h)

  read_keeps : Keeps (λ past. Each IsRead (taken past))
  unfolding Keeps
  read_keeps call past is_legal read all = call_taken call past read all

  handed_keeps : (h : HandedFrame S) → Keeps (λ past. IsHandedOut codec past h)
  unfolding Keeps
  handed_keeps h call past is_legal read is = call_handed codec call past h is_legal read is

  read_after : (events : List WorldEvent) → Each IsRead (taken (after codec session events).receiver)
  unfolding after
  read_after [] = tt
  read_after (event ∷ before) = event_keeps (λ past. Each IsRead (taken past)) read_keeps (after codec session before) event (legal codec session (event ∷ before)).receiver (read_after before)

  -- a frame that an event handed out is that of its number after all later events
  pub own_frame : (later before : List WorldEvent) (h : HandedFrame S) → next_frame codec (after codec session before).receiver ≡ Some h → IsReadyFrame codec (after codec session (later ++ TakesReady ∷ before)).receiver h
  unfolding after
  own_frame later before h e =
      let first : IsHandedOut codec (after codec session before).receiver h = record { read = read_after before; of = next_of codec (after codec session before).receiver h e } in
      (keeps_later (λ past. IsHandedOut codec past h) (handed_keeps h) later (TakesReady ∷ before)
      (event_keeps (λ past. IsHandedOut codec past h) (handed_keeps h) (after codec session before) TakesReady (legal codec session (TakesReady ∷ before)).receiver first)).of
