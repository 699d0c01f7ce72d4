-- What a call of the receiver makes of the world.
use Rattle.std.proofs.Common.{◌≡◌, ℕ, Bool, true, false, cond, not, List, [], ◌∷◌, ◌++◌, length, Option, Some, None, is_some, Result, Ok, Err, IsTrue, refl, ap, sym, ◌∙◌, subst, inl, inr}
use Rattle.std.specs.Prelude.{option_and_then, IfSome}
use Rattle.std.specs.Option.{option_map}
use Rattle.sal_base.specs.declared.coding.Fault.{Fault}
use Rattle.sal_base.specs.declared.coding.Decoded.{Decoded}
use Rattle.sal_codec.specs.Coding.{Coding}
use Rattle.sal_wire.specs.declared.datagram.Ack.{Ack}
use Rattle.sal_wire.specs.Parsing.{parsed}
use Rattle.sal_wire.specs.Layout.{ack_bytes}
use Rattle.sal_sender.specs.OneThread.{Session}
use Rattle.sal_receiver.specs.declared.answers.Delivered.{Delivered}
use Rattle.sal_receiver.specs.declared.answers.Delivered.TheVariants.{Taken, Memory as DeliveredMemory}
use Rattle.sal_receiver.specs.declared.answers.Done.{Done}
use Rattle.sal_receiver.specs.declared.answers.Done.TheVariants.{Stranger}
use Rattle.sal_reasm.specs.Complete.{floor_of}
use Rattle.sal_reasm.specs.Stands.{SlotsStand}
use Rattle.sal_budget.specs.Gap.{gap_after}
use Rattle.sal_receiver.specs.Past.{ReceiverCall, Deliver, TakeReady, Decoding, DecodeResult, Sound, Faulty, NoMemory, head, now, arrivals, taken, shown}
use Rattle.sal_receiver.specs.Past.{session as session_of}
use Rattle.sal_receiver.specs.Held.{held}
use Rattle.sal_receiver.specs.Ready.{ready_source, frame, is_out, ready_answer, outcome_of, decoding_of}
use Rattle.sal_receiver.specs.Answers.{deliver_answer, decoded_answer, outcome_answer, last_shown}
use Rattle.sal_receiver.specs.Promises.{ReceiverAnswers, ReceiverAnswered, IsLeftAlone, IsItsDecoding, IsLegalReceiver}
use Rattle.sal_receiver.specs.Handed.{HandedFrame, IsHandedOut, IsReadyFrame, number_of}
use Rattle.sal_receiver.specs.Machine.{ReceiverState, pending}
use Rattle.sal_receiver.specs.Machine.{ReceiverStands}
use Rattle.sal_world.specs.declared.event.Unsent.{Unsent}
use Rattle.sal_world.specs.World.{Delivers, TakesReady, Decodes, WorldPast, sent, ack_in, at_number, delivered_if_sent}
use Rattle.sal_world.specs.WorldParts.{WorldParts}
use Rattle.sal_world.specs.HandedOut.{frame_from, frame_at, next_frame}
use Rattle.sal_world.specs.Answers.{did_decode, answer_to_datagram, delivery_answer, done_answer}
use Rattle.sal_world.specs.Stands.{IsWorld, HappenedIn, HappenedInUnless}
use Rattle.sal_world.proofs.Stepping.{opened, receiver_called, receiver_quiet}

-- the same receiver in a world
pub same_receiver : {S : Type 0} (x b : WorldParts S) (r : ReceiverState S) → x ≡ b → r ≡ x.receiver → record x { receiver = r } ≡ b
same_receiver {S = S} x b r view same = ap (λ (v : ReceiverState S). record x { receiver = v }) same ∙ view

module _ {S : Type 0} where
  pub down_kept : (x b : WorldParts S) (r : ReceiverState S) (texts : List (List ℕ)) (answer said : Delivered) → x ≡ b → texts ≡ x.acks → (IsLeftAlone answer → r ≡ x.receiver) → answer ≡ said → IsLeftAlone said → record x { receiver = r; acks = texts } ≡ b
  down_kept x b r texts answer said view same kept e alone =
      let whole : r ≡ x.receiver = kept (subst (λ a. IsLeftAlone a) (sym e) alone) in
      ap (λ (v : ReceiverState S). record x { receiver = v; acks = texts }) whole ∙ (ap (λ (ts : List (List ℕ)). record x { acks = ts }) same ∙ view)

  pub ready_kept : (x b : WorldParts S) (r : ReceiverState S) (frame : Option (HandedFrame S)) → x ≡ b → (frame ≡ None → r ≡ x.receiver) → frame ≡ None → record x { receiver = r } ≡ b
  ready_kept x b r frame view kept h = same_receiver x b r view (kept h)

  pub decoded_kept : (x b : WorldParts S) (r : ReceiverState S) (answer : Done) → x ≡ b → (answer ≡ Stranger → r ≡ x.receiver) → answer ≡ Stranger → record x { receiver = r } ≡ b
  decoded_kept x b r answer view kept h = same_receiver x b r view (kept h)

module _ {S : Type 0} (codec : Coding S) where
  not_memory : (past : List (ReceiverCall S)) (bytes : List ℕ) (moment : ℕ) (answer : Delivered) → (answer ≡ DeliveredMemory → ⊥) → ReceiverAnswers codec (Deliver (parsed bytes) moment answer) past → answer ≡ deliver_answer codec past (parsed bytes) moment
  not_memory past bytes moment answer never (inl e) = e
  not_memory past bytes moment answer never (inr p) = absurd (never p.0)

  frame_is : (past : List (ReceiverCall S)) (h : HandedFrame S) → IsReadyFrame codec past h → frame_at codec past h.number ≡ Some h
  frame_is past h is =
      ap (λ o. option_map (frame_from codec past h.number) o) is.source
      ∙ (ap (λ ts. Some (record { number = h.number; target = ts; source = h.source; bytes = frame past h.number })) is.target
      ∙ ap (λ bs. Some (record { number = h.number; target = h.target; source = h.source; bytes = bs })) is.bytes)

  handed_is : (past : List (ReceiverCall S)) (o : Option (HandedFrame S)) → IfSome o (IsReadyFrame codec past) → option_map number_of o ≡ ready_answer codec past → o ≡ next_frame codec past
  handed_is past None of answer = ap (λ n. option_and_then (frame_at codec past) n) answer
  handed_is past (Some h) of answer = sym (frame_is past h of) ∙ ap (λ n. option_and_then (frame_at codec past) n) answer

  -- there was memory exactly where the outcome says so
  ran_is : (o : Option S) (bytes : List ℕ) (ran : Bool) → decoding_of codec o bytes (did_decode (decoding_of codec o bytes ran)) ≡ decoding_of codec o bytes ran
  ran_is None bytes ran = refl
  ran_is (Some source) bytes false = refl
  ran_is (Some source) bytes true = step (codec.decode source bytes) refl
    where
      step : (said : Result (Decoded S) Fault) → codec.decode source bytes ≡ said → decoding_of codec (Some source) bytes (did_decode (outcome_of codec said)) ≡ outcome_of codec said
      step (Ok d) e = ap (λ v. outcome_of codec v) e
      step (Err fault) e = ap (λ v. outcome_of codec v) e

  own_is : (past : List (ReceiverCall S)) (n : ℕ) (outcome : DecodeResult S) → IsItsDecoding codec past n outcome → outcome ≡ decoding_of codec (ready_source codec past n) (frame past n) (did_decode outcome)
  own_is past n outcome own =
      own.1 ∙ (sym (ran_is (ready_source codec past n) (frame past n) own.0) ∙ ap (λ o. decoding_of codec (ready_source codec past n) (frame past n) (did_decode o)) (sym own.1))

  -- ---- a decoding of a number that isn't out

  same_stands : (r : ReceiverState S) (a b : List (ReceiverCall S)) → IsLegalReceiver codec b → session_of a ≡ session_of b → head a ≡ head b → now a ≡ now b → arrivals a ≡ arrivals b → taken a ≡ taken b → held codec a ≡ held codec b → shown a ≡ shown b → ((n : ℕ) → pending codec a n ≡ pending codec b n) → ReceiverStands codec r a → ReceiverStands codec r b
  same_stands r a b legal session_is head_is now_is arrivals_are taken_is held_is shown_is pending_is s = record {
    legal = legal;
    session = s.session ∙ session_is;
    head = s.head ∙ head_is;
    moment = s.moment ∙ now_is;
    gap = s.gap ∙ ap (λ v. gap_after v) arrivals_are;
    slots = subst (λ es. SlotsStand r.slots es) taken_is s.slots;
    floor = s.floor ∙ ap (λ es. floor_of es) taken_is;
    kept = s.kept ∙ held_is;
    order = s.order;
    frames = λ n. s.frames n ∙ pending_is n;
    last = s.last ∙ ap (λ v. last_shown v) shown_is;
  }

  stranger_is : (past : List (ReceiverCall S)) (n : ℕ) (outcome : DecodeResult S) → is_out past n ≡ false → decoded_answer codec past n outcome ≡ Stranger
  stranger_is past n outcome out = ap (λ b. cond (not b) Stranger (outcome_answer codec past n outcome)) out

  stranger_legal : (past : List (ReceiverCall S)) (n : ℕ) (outcome : DecodeResult S) → is_out past n ≡ false → IsLegalReceiver codec past → IsLegalReceiver codec (Decoding n outcome Stranger ∷ past)
  stranger_legal past n outcome out legal = ((sym (stranger_is past n outcome out), λ (q : IsTrue (is_out past n)). absurd (let z : true ≡ false = sym q ∙ out in cc)), legal)

  -- its outcome doesn't matter
  to_nothing : (r : ReceiverState S) (past : List (ReceiverCall S)) (n : ℕ) (outcome : DecodeResult S) → is_out past n ≡ false → ReceiverStands codec r (Decoding n outcome Stranger ∷ past) → ReceiverStands codec r (Decoding n NoMemory Stranger ∷ past)
  unfolding ready_source
  to_nothing r past n (Sound state picture) out s = same_stands r (Decoding n (Sound state picture) Stranger ∷ past) (Decoding n NoMemory Stranger ∷ past) (stranger_legal past n NoMemory out s.legal.1) refl refl refl refl refl refl refl (λ k. refl) s
  to_nothing r past n (Faulty fault) out s = same_stands r (Decoding n (Faulty fault) Stranger ∷ past) (Decoding n NoMemory Stranger ∷ past) (stranger_legal past n NoMemory out s.legal.1) refl refl refl refl refl refl refl (λ k. refl) s
  to_nothing r past n NoMemory out s = s

  from_nothing : (r : ReceiverState S) (past : List (ReceiverCall S)) (n : ℕ) (outcome : DecodeResult S) → is_out past n ≡ false → ReceiverStands codec r (Decoding n NoMemory Stranger ∷ past) → ReceiverStands codec r (Decoding n outcome Stranger ∷ past)
  unfolding ready_source
  from_nothing r past n (Sound state picture) out s = same_stands r (Decoding n NoMemory Stranger ∷ past) (Decoding n (Sound state picture) Stranger ∷ past) (stranger_legal past n (Sound state picture) out s.legal.1) refl refl refl refl refl refl refl (λ k. refl) s
  from_nothing r past n (Faulty fault) out s = same_stands r (Decoding n NoMemory Stranger ∷ past) (Decoding n (Faulty fault) Stranger ∷ past) (stranger_legal past n (Faulty fault) out s.legal.1) refl refl refl refl refl refl refl (λ k. refl) s
  from_nothing r past n NoMemory out s = s

  -- a decoding of what was handed out, as the definitions have it
  pub decoding_is : (r : ReceiverState S) (past : List (ReceiverCall S)) (n : ℕ) (outcome : DecodeResult S) (answer : Done) (out : Bool) → is_out past n ≡ out → ReceiverAnswers codec (Decoding n outcome answer) past → ReceiverStands codec r (Decoding n outcome answer ∷ past)
      → (answer ≡ decoded_answer codec past n (decoding_of codec (ready_source codec past n) (frame past n) (did_decode outcome)))
      × ReceiverStands codec r (Decoding n (decoding_of codec (ready_source codec past n) (frame past n) (did_decode outcome)) (decoded_answer codec past n (decoding_of codec (ready_source codec past n) (frame past n) (did_decode outcome))) ∷ past)
  decoding_is r past n outcome answer true out answers s =
      let e : outcome ≡ decoding_of codec (ready_source codec past n) (frame past n) (did_decode outcome) = own_is past n outcome (answers.1 out) in (
        answers.0 ∙ ap (λ o. decoded_answer codec past n o) e,
        subst (λ o. ReceiverStands codec r (Decoding n o (decoded_answer codec past n o) ∷ past)) e (subst (λ a. ReceiverStands codec r (Decoding n outcome a ∷ past)) answers.0 s),
      )
  decoding_is r past n outcome answer false out answers s =
      let given : DecodeResult S = decoding_of codec (ready_source codec past n) (frame past n) (did_decode outcome) in
      let e : answer ≡ Stranger = answers.0 ∙ stranger_is past n outcome out in (
        e ∙ sym (stranger_is past n given out),
        subst (λ a. ReceiverStands codec r (Decoding n given a ∷ past)) (sym (stranger_is past n given out))
            (from_nothing r past n given out (to_nothing r past n outcome out (subst (λ a. ReceiverStands codec r (Decoding n outcome a ∷ past)) e s))),
      )

module _ {S : Type 0} (codec : Coding S) (session : Session) where
  -- of what came from the list of datagrams
  there_is : (x : WorldParts S) (w : WorldPast S) (which n : ℕ) (bytes : List ℕ) → IsWorld codec session x w → at_number x.sent n ≡ Some bytes → n ≡ which → at_number (sent w) which ≡ Some bytes
  there_is x w which n bytes is there own = ap (λ ts. at_number ts which) (sym is.sent_are) ∙ (ap (λ k. at_number x.sent k) (sym own) ∙ there)

  -- a datagram of that number is there
  pub down_there : (x b : WorldParts S) (w : WorldPast S) (which n : ℕ) (bytes : List ℕ) → x ≡ b → IsWorld codec session b w → at_number x.sent n ≡ Some bytes → n ≡ which → is_some (at_number (sent w) which) ≡ true
  down_there x b w which n bytes view seen there own = ap is_some (there_is x w which n bytes (opened codec session x b w view seen) there own)

-- the answers to a datagram that there is, and that there isn't
abbrev pub ok : Delivered → Result Delivered Unsent
ok a = Ok a

abbrev pub unsent : ℕ → ℕ → Result Delivered Unsent
unsent n l = Err (record { number = n; last = l })

module _ {S : Type 0} (codec : Coding S) (session : Session) where
  abbrev Did : WorldParts S → WorldPast S → ℕ → Result Delivered Unsent → Type 0
  Did new w which answer = HappenedInUnless codec session (ok DeliveredMemory) new w (Delivers which) answer (delivery_answer codec session w which)

  -- ---- datagrams

  pub down_unsent : (x b : WorldParts S) (w : WorldPast S) (which n m last : ℕ) → x ≡ b → IsWorld codec session b w → at_number x.sent n ≡ None → n ≡ which → m ≡ which → last ≡ length x.sent → Did b w which (Err (record { number = m; last = last }))
  down_unsent x b w which n m last view seen none own named long =
      let is : IsWorld codec session x w = opened codec session x b w view seen in
      let gone : at_number (sent w) which ≡ None = ap (λ ts. at_number ts which) (sym is.sent_are) ∙ (ap (λ k. at_number x.sent k) (sym own) ∙ none) in
      inr (
        ap (λ k. unsent k last) named ∙ (ap (λ l. unsent which l) (long ∙ ap (λ (ts : List (List ℕ)). length ts) is.sent_are) ∙ sym (ap (λ o. answer_to_datagram codec session w which o) gone)),
        subst (λ o. IsWorld codec session b (delivered_if_sent codec w o)) (sym gone) seen,
      )

  -- the answer is the one that the definitions give
  down_is : (x : WorldParts S) (r : ReceiverState S) (texts : List (List ℕ)) (w : WorldPast S) (which : ℕ) (bytes : List ℕ) (answer : Delivered) → at_number (sent w) which ≡ Some bytes → x.moment ≡ w.moment → answer ≡ deliver_answer codec w.receiver (parsed bytes) x.moment → IsWorld codec session (record x { receiver = r; acks = texts }) (record w { receiver = Deliver (parsed bytes) x.moment answer ∷ w.receiver }) → Did (record x { receiver = r; acks = texts }) w which (Ok answer)
  down_is x r texts w which bytes answer found moment said after =
      let said_now : answer ≡ deliver_answer codec w.receiver (parsed bytes) w.moment = said ∙ ap (λ t. deliver_answer codec w.receiver (parsed bytes) t) moment in
      inr (
        ap ok said_now ∙ sym (ap (λ o. answer_to_datagram codec session w which o) found),
        subst (λ o. IsWorld codec session (record x { receiver = r; acks = texts }) (delivered_if_sent codec w o)) (sym found)
            (subst (λ t. IsWorld codec session (record x { receiver = r; acks = texts }) (record w { receiver = Deliver (parsed bytes) t (deliver_answer codec w.receiver (parsed bytes) w.moment) ∷ w.receiver })) moment
            (subst (λ a. IsWorld codec session (record x { receiver = r; acks = texts }) (record w { receiver = Deliver (parsed bytes) x.moment a ∷ w.receiver })) said_now after)),
      )

  pub down_taken : (x b : WorldParts S) (r : ReceiverState S) (texts : List (List ℕ)) (w : WorldPast S) (which n : ℕ) (bytes text : List ℕ) (ack : Ack) (answer : Delivered) → x ≡ b → IsWorld codec session b w → at_number x.sent n ≡ Some bytes → n ≡ which → ReceiverAnswered codec (ReceiverStands codec) x.receiver r (Deliver (parsed bytes) x.moment answer) → answer ≡ Taken ack → texts ≡ x.acks ++ text ∷ [] → text ≡ ack_bytes ack → Did (record x { receiver = r; acks = texts }) w which (Ok (Taken ack))
  down_taken x b r texts w which n bytes text ack answer view seen there own answered e more spelled = go (opened codec session x b w view seen)
    where
      go : IsWorld codec session x w → Did (record x { receiver = r; acks = texts }) w which (Ok (Taken ack))
      go is =
          let both : ReceiverAnswers codec (Deliver (parsed bytes) x.moment (Taken ack)) w.receiver × ReceiverStands codec r (Deliver (parsed bytes) x.moment (Taken ack) ∷ w.receiver) =
          subst (λ a. ReceiverAnswers codec (Deliver (parsed bytes) x.moment a) w.receiver × ReceiverStands codec r (Deliver (parsed bytes) x.moment a ∷ w.receiver)) e (answered w.receiver is.receiver) in
          down_is x r texts w which bytes (Taken ack) (there_is codec session x w which n bytes is there own) is.moment_is (not_memory codec w.receiver bytes x.moment (Taken ack) (λ (q : Taken ack ≡ DeliveredMemory). cc) both.0)
          (receiver_called codec session x r texts w (Deliver (parsed bytes) x.moment (Taken ack)) is both.1 (more ∙ ap (λ t. x.acks ++ t ∷ []) spelled))

  -- an answer without an acknowledgement
  pub down_quiet : (x b : WorldParts S) (r : ReceiverState S) (texts : List (List ℕ)) (w : WorldPast S) (which n : ℕ) (bytes : List ℕ) (answer said : Delivered) → x ≡ b → IsWorld codec session b w → at_number x.sent n ≡ Some bytes → n ≡ which → ReceiverAnswered codec (ReceiverStands codec) x.receiver r (Deliver (parsed bytes) x.moment answer) → answer ≡ said → (said ≡ DeliveredMemory → ⊥) → ack_in {S = S} (Deliver (parsed bytes) x.moment said) ≡ [] → texts ≡ x.acks → Did (record x { receiver = r; acks = texts }) w which (Ok said)
  down_quiet x b r texts w which n bytes answer said view seen there own answered e never none same = go (opened codec session x b w view seen)
    where
      go : IsWorld codec session x w → Did (record x { receiver = r; acks = texts }) w which (Ok said)
      go is =
          let both : ReceiverAnswers codec (Deliver (parsed bytes) x.moment said) w.receiver × ReceiverStands codec r (Deliver (parsed bytes) x.moment said ∷ w.receiver) =
          subst (λ a. ReceiverAnswers codec (Deliver (parsed bytes) x.moment a) w.receiver × ReceiverStands codec r (Deliver (parsed bytes) x.moment a ∷ w.receiver)) e (answered w.receiver is.receiver) in
          down_is x r texts w which bytes said (there_is codec session x w which n bytes is there own) is.moment_is (not_memory codec w.receiver bytes x.moment said never both.0)
          (subst (λ ts. IsWorld codec session (record x { receiver = r; acks = ts }) (record w { receiver = Deliver (parsed bytes) x.moment said ∷ w.receiver })) (sym same) (receiver_quiet codec session x r w (Deliver (parsed bytes) x.moment said) is both.1 none))

  -- ---- frames that are handed out

  pub ready_happens : (x b : WorldParts S) (r : ReceiverState S) (w : WorldPast S) (given : Option (HandedFrame S)) → x ≡ b → IsWorld codec session b w → ReceiverAnswered codec (ReceiverStands codec) x.receiver r (TakeReady (option_map number_of given)) → ((past : List (ReceiverCall S)) → ReceiverStands codec x.receiver past → IfSome given (IsReadyFrame codec past)) → HappenedIn codec session (record x { receiver = r }) w TakesReady given (next_frame codec w.receiver)
  ready_happens x b r w given view seen answered frame_of =
      let is : IsWorld codec session x w = opened codec session x b w view seen in
      let both : ReceiverAnswers codec (TakeReady (option_map number_of given)) w.receiver × ReceiverStands codec r (TakeReady (option_map number_of given) ∷ w.receiver) = answered w.receiver is.receiver in (
        handed_is codec w.receiver given (frame_of w.receiver is.receiver) both.0,
        subst (λ a. IsWorld codec session (record x { receiver = r }) (record w { receiver = TakeReady a ∷ w.receiver })) both.0 (receiver_quiet codec session x r w (TakeReady (option_map number_of given)) is both.1 refl),
      )

  -- ---- decodings

  pub decoded_happens : (x b : WorldParts S) (r : ReceiverState S) (w : WorldPast S) (h : HandedFrame S) (outcome : DecodeResult S) (answer : Done) → x ≡ b → IsWorld codec session b w → IsHandedOut codec w.receiver h → ((past : List (ReceiverCall S)) → ReceiverStands codec x.receiver past → IsHandedOut codec past h → ReceiverAnswers codec (Decoding h.number outcome answer) past × ReceiverStands codec r (Decoding h.number outcome answer ∷ past)) → HappenedIn codec session (record x { receiver = r }) w (Decodes h.number (did_decode outcome)) answer (done_answer codec session w h.number (did_decode outcome))
  decoded_happens x b r w h outcome answer view seen own answered =
      let is : IsWorld codec session x w = opened codec session x b w view seen in
      let both : ReceiverAnswers codec (Decoding h.number outcome answer) w.receiver × ReceiverStands codec r (Decoding h.number outcome answer ∷ w.receiver) = answered w.receiver is.receiver own in
      let given : DecodeResult S = decoding_of codec (ready_source codec w.receiver h.number) (frame w.receiver h.number) (did_decode outcome) in
      let as_is : (answer ≡ decoded_answer codec w.receiver h.number given) × ReceiverStands codec r (Decoding h.number given (decoded_answer codec w.receiver h.number given) ∷ w.receiver) = decoding_is codec r w.receiver h.number outcome answer (is_out w.receiver h.number) refl both.0 both.1 in
      (as_is.0, receiver_quiet codec session x r w (Decoding h.number given (decoded_answer codec w.receiver h.number given)) is as_is.1 refl)
