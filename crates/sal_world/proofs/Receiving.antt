-- Frames handed out and decoded keep the invariant.
use Rattle.std.proofs.Common.{◌≡◌, ℕ, ◌+◌, ◌≤◌, Bool, true, false, cond, List, [], ◌∷◌, length, Option, Some, None, is_some, Ok, refl, ap, sym, ◌∙◌, subst, arith, leb, append-nil, inl, inr, ◌⊎◌}
use Rattle.std.proofs.lemmas.Bool.{eq-eqb, and_from}
use Rattle.std.specs.List.{cons_option}
use Rattle.std.specs.Prelude.{Result}
use Rattle.sal_base.specs.Lists.{Has, Each}
use Rattle.sal_base.specs.Names.{same}
use Rattle.sal_base.specs.declared.picture.Picture.{Picture}
use Rattle.sal_codec.specs.Coding.{Coding}
use Rattle.sal_y4m.specs.declared.head.Head.{Head}
use Rattle.sal_wire.specs.Fields.{FragmentFields}
use Rattle.sal_wire.specs.Message.{Message, FragmentMessage}
use Rattle.sal_wire.specs.declared.fault.WireFault.{WireFault}
use Rattle.sal_wire.specs.declared.datagram.Ack.{Ack}
use Rattle.sal_reasm.specs.Complete.{floor_of, fragments_of, has_all}
use Rattle.sal_reasm.specs.Offer.{or_else}
use Rattle.sal_chain.specs.declared.stored_state.StoredState.{StoredState}
use Rattle.sal_sender.specs.declared.choice.Choice.{Choice}
use Rattle.sal_sender.specs.Past.{choices, pictures, tip}
use Rattle.sal_sender.specs.Past.{floor as floor_of_sender}
use Rattle.sal_chain.specs.Held.{name_in}
use Rattle.sal_sender.specs.Chain.{state_at}
use Rattle.sal_sender.specs.OneThread.{Session}
use Rattle.sal_sender.specs.Acks.{acknowledged}
use Rattle.sal_sender.proofs.Sound.{tip_is}
use Rattle.sal_receiver.specs.declared.answers.Delivered.{Delivered}
use Rattle.sal_receiver.specs.declared.answers.Delivered.TheVariants.{Taken, Ended, Refused, Memory}
use Rattle.sal_receiver.specs.declared.answers.Done.{Done}
use Rattle.sal_receiver.specs.declared.answers.Done.TheVariants.{Stranger, Returned, Older, Show}
use Rattle.sal_receiver.specs.Past.{ReceiverCall, Deliver, TakeReady, Decoding, DecodeResult, Sound, Faulty, NoMemory, taken, shown, shown_in, head, head_of, floor}
use Rattle.sal_receiver.specs.Past.{session as session_of}
use Rattle.sal_receiver.specs.Held.{kept_as, state_in, decoded}
use Rattle.sal_receiver.specs.Ready.{ready_source, frame, target_name, is_out, ready_answer, decoding_of, outcome_of}
use Rattle.sal_receiver.specs.Answers.{has_size, last_shown, outcome_answer, decoded_answer}
use Rattle.sal_receiver.specs.Promises.{IsFit}
use Rattle.sal_world.specs.World.{WorldPast, TakesReady, Decodes, ack_in, acks_of, happens}
use Rattle.sal_world.specs.Promises.{NamesDifferIn, IsDecoding}
use Rattle.sal_world.specs.Invariant.{Invariant, fragments, IsOfSentFragment, IsStateOfNumber, IsFrameOfNumber, IsAckOfSent, IsHeldOrPassed, WasAcked}
use Rattle.sal_world.proofs.ListLemmas.{has_left, each_has, each_map, some_same}
use Rattle.sal_world.proofs.FromInvariant.{same_refl}
use Rattle.sal_world.proofs.Legal.{IsLegalWorld}
use Rattle.sal_world.proofs.Numbers.{IsSent, IsPiece, sent_piece, of_made}
use Rattle.sal_world.proofs.Growing.{number_low}
use Rattle.sal_world.proofs.Given.{part_of, part_near}
use Rattle.sal_world.proofs.Whole.{all_one}
use Rattle.sal_world.proofs.HandedOut.{out_open}
use Rattle.sal_world.proofs.FrameOf.{Given, receives, whole_sent, next_frames}

-- ---- what came

else_none : {X : Type 0} (o : Option X) → or_else o None ≡ o
else_none None = refl
else_none (Some x) = refl

none_else : {X : Type 0} (o : Option X) (x y : X) → x ≡ y → (o ≡ Some y) ⊎ (o ≡ None) → or_else o (Some x) ≡ Some y
none_else None x y e (inl h) = absurd (cc)
none_else None x y e (inr h) = ap (λ z. Some z) e
none_else (Some z) x y e (inl h) = h
none_else (Some z) x y e (inr h) = absurd (cc)

-- a member's floor is no greater than that of all
pub floor_member : (es : List FragmentFields) (e : FragmentFields) → Has es e → e.floor ≤ floor_of es
floor_member [] e h = absurd h
floor_member (x ∷ es) e (inl h) = let own : e.floor ≡ x.floor = ap (λ (p : FragmentFields). p.floor) h in omega arith
floor_member (x ∷ es) e (inr h) = let more : e.floor ≤ floor_of es = floor_member es e h in omega arith

module _ {S : Type 0} (codec : Coding S) (session : Session) where
  -- what came is a fragment that was sent, and was taken
  pub sent_call : (P : ReceiverCall S → Type 0) (w : WorldPast S) (came : Result Message WireFault) (moment : ℕ) (answer : Delivered) → ((e : FragmentFields) (ack : Ack) → Has (fragments codec session w.sender) e → P (Deliver (Ok (FragmentMessage e)) moment (Taken ack))) → IsOfSentFragment codec session w.sender (Deliver came moment answer) → P (Deliver came moment answer)
  sent_call P w came moment (Taken ack) f of = subst (λ c. P (Deliver c moment (Taken ack))) (sym of.2) (f of.0 ack of.1)
  sent_call P w came moment (Ended last) f of = absurd of.3
  sent_call P w came moment (Refused cause) f of = absurd of.3
  sent_call P w came moment Memory f of = absurd of.3

  piece_of : (w : WorldPast S) (e : FragmentFields) → Given codec session w → Has (fragments codec session w.sender) e → IsPiece codec session (pictures w.sender) (choices w.sender) e
  piece_of w e g has = sent_piece codec session (pictures w.sender) (choices w.sender) g.chained e has

  heads_same : (w v h g : ℕ) (r t : ℕ × ℕ) → w ≡ v → h ≡ g → r ≡ t → ◌≡◌ {A = Head} (record { width = w; height = h; rate = r }) (record { width = v; height = g; rate = t })
  heads_same w v h g r t a b c = cc

  pub head_is : (w : WorldPast S) (e : FragmentFields) → Given codec session w → Has (fragments codec session w.sender) e → head_of e ≡ session.head
  head_is w e g has = let p = piece_of w e g has in heads_same e.width session.head.width e.height session.head.height e.rate session.head.rate p.width p.height p.rate

  -- the receiver's head is the session's, or nothing was taken
  pub head_known : (w : WorldPast S) (past : List (ReceiverCall S)) → Given codec session w → Each (IsOfSentFragment codec session w.sender) past → (head past ≡ Some session.head) ⊎ ((head past ≡ None) × (taken past ≡ []))
  head_known w [] g each = inr (refl, refl)
  head_known w (TakeReady answer ∷ past) g each = elim (head_known w past g each.1) [ inl a ↦ inl (else_none (head past) ∙ a) | inr b ↦ inr (else_none (head past) ∙ b.0, b.1) ]
  head_known w (Decoding n outcome answer ∷ past) g each = elim (head_known w past g each.1) [ inl a ↦ inl (else_none (head past) ∙ a) | inr b ↦ inr (else_none (head past) ∙ b.0, b.1) ]
  head_known w (Deliver came moment answer ∷ past) g each =
      sent_call (λ call. (head (call ∷ past) ≡ Some session.head) ⊎ ((head (call ∷ past) ≡ None) × (taken (call ∷ past) ≡ []))) w came moment answer
      (λ e ack has. inl (none_else (head past) (head_of e) session.head (head_is w e g has) (weaker (head_known w past g each.1)))) each.0
    where
      weaker : (head past ≡ Some session.head) ⊎ ((head past ≡ None) × (taken past ≡ [])) → (head past ≡ Some session.head) ⊎ (head past ≡ None)
      weaker (inl a) = inl a
      weaker (inr b) = inr b.0

  pub session_known : (w : WorldPast S) (past : List (ReceiverCall S)) → Given codec session w → Each (IsOfSentFragment codec session w.sender) past → (session_of past ≡ Some session.number) ⊎ (session_of past ≡ None)
  session_known w [] g each = inr refl
  session_known w (TakeReady answer ∷ past) g each = elim (session_known w past g each.1) [ inl a ↦ inl (else_none (session_of past) ∙ a) | inr b ↦ inr (else_none (session_of past) ∙ b) ]
  session_known w (Decoding n outcome answer ∷ past) g each = elim (session_known w past g each.1) [ inl a ↦ inl (else_none (session_of past) ∙ a) | inr b ↦ inr (else_none (session_of past) ∙ b) ]
  session_known w (Deliver came moment answer ∷ past) g each =
      sent_call (λ call. (session_of (call ∷ past) ≡ Some session.number) ⊎ (session_of (call ∷ past) ≡ None)) w came moment answer
      (λ e ack has. inl (none_else (session_of past) e.session session.number (piece_of w e g has).own (session_known w past g each.1))) each.0

  none_taken : (es : List FragmentFields) (e : FragmentFields) → es ≡ [] → Has es e → ⊥
  none_taken [] e is has = has
  none_taken (x ∷ es) e is has = absurd (cc)

  pub head_there : (w : WorldPast S) (e : FragmentFields) → Given codec session w → Each (IsOfSentFragment codec session w.sender) w.receiver → Has (taken w.receiver) e → head w.receiver ≡ Some session.head
  head_there w e g each has = elim (head_known w w.receiver g each) [ inl a ↦ a | inr b ↦ absurd (none_taken (taken w.receiver) e b.1 has) ]

  -- ---- a call that takes no fragment

  pub acked_later : (w : WorldPast S) (call : ReceiverCall S) → Invariant codec session w → Each (WasAcked codec session (receives codec session w call).receiver) (acknowledged w.sender)
  acked_later w call inv = each_map (WasAcked codec session w.receiver) (WasAcked codec session (receives codec session w call).receiver) (λ n was. (was.0, has_left (acks_of w.receiver) (ack_in call) was.0 was.1, was.2, was.3)) (acknowledged w.sender) inv.acks.acked

  -- what is said of the sender alone stays as the receiver is called
  pub same_seen : (w : WorldPast S) (call : ReceiverCall S) (s : ℕ × Picture) → IsDecoding codec w.sender s.0 s.1 → IsDecoding codec (receives codec session w call).sender s.0 s.1
  same_seen w call s is = record { choice = is.choice; chosen = is.chosen; made = is.made; is_made = is.is_made; reconstruction = is.reconstruction; decoded = is.decoded; decoding = is.decoding; same_picture = is.same_picture }

  pub same_ack : (w : WorldPast S) (call : ReceiverCall S) (ack : Ack) → IsAckOfSent codec session w.sender ack → IsAckOfSent codec session (receives codec session w call).sender ack
  same_ack w call ack is = record { own = is.own; sent = is.sent; fits = is.fits; is = is.is; states = is.states }

  -- what a call that takes no fragment keeps, with what it adds to the states held and the numbers shown
  pub quiet_kept : (w : WorldPast S) (call : ReceiverCall S) → Given codec session w → NamesDifferIn codec w → Invariant codec session w
      → taken (call ∷ w.receiver) ≡ taken w.receiver → acks_of (call ∷ w.receiver) ≡ acks_of w.receiver → IsOfSentFragment codec session w.sender call → IsFit call
      → Each (IsStateOfNumber codec session w.sender w.receiver) (decoded codec (call ∷ w.receiver)) → ((k : StoredState S) → Has (decoded codec w.receiver) k → Has (decoded codec (call ∷ w.receiver)) k)
      → Each (λ s. IsDecoding codec w.sender s.0 s.1) (shown (call ∷ w.receiver))
      → Invariant codec session (receives codec session w call)
  quiet_kept w call g names inv taken_same acks of fit states more seen =
      let v : WorldPast S = receives codec session w call in
      let floors : floor (call ∷ w.receiver) ≡ floor w.receiver = ap floor_of taken_same in
      let parts : Each (Has (fragments codec session w.sender)) (taken (call ∷ w.receiver)) = subst (Each (Has (fragments codec session w.sender))) (sym taken_same) inv.receiver.parts in
      let held : Each (IsStateOfNumber codec session v.sender v.receiver) (decoded codec (call ∷ w.receiver)) = each_map (IsStateOfNumber codec session w.sender w.receiver) (IsStateOfNumber codec session v.sender v.receiver) (λ k is. record { some = is.some; chosen = is.chosen; near = omega (arith, is.near, floors); state = is.state; name = is.name }) (decoded codec (call ∷ w.receiver)) states in
      record {
        sender = inv.sender;
        receiver = record {
          delivered = (of, inv.receiver.delivered);
          floor = subst (λ f. (f ≡ 1) ⊎ ((e : FragmentFields) × Has (fragments codec session w.sender) e × (e.floor ≡ f))) (sym floors) inv.receiver.floor;
          behind = (let b : floor w.receiver ≤ floor_of_sender w.sender = inv.receiver.behind in omega (arith, floors));
          parts = parts;
          held = held;
          fit = (fit, inv.receiver.fit);
          seen = each_map (λ s. IsDecoding codec w.sender s.0 s.1) (λ s. IsDecoding codec v.sender s.0 s.1) (λ s is. same_seen w call s is) (shown (call ∷ w.receiver)) seen;
          frames = next_frames codec session w call g names parts held (λ n all. subst (λ es. has_all (fragments_of n es) ≡ true) (sym taken_same) all) inv.receiver.frames;
        };
        acks = record {
          heard = inv.acks.heard;
          acks = subst (Each (IsAckOfSent codec session v.sender)) (sym acks) (each_map (IsAckOfSent codec session w.sender) (IsAckOfSent codec session v.sender) (same_ack w call) (acks_of w.receiver) inv.acks.acks);
          named = subst (Each (λ ack. Each (λ h. IsHeldOrPassed codec session v.receiver h.0) ack.held)) (sym acks) (each_map (λ ack. Each (λ h. IsHeldOrPassed codec session w.receiver h.0) ack.held) (λ ack. Each (λ h. IsHeldOrPassed codec session v.receiver h.0) ack.held) (λ ack each. each_map (λ h. IsHeldOrPassed codec session w.receiver h.0) (λ h. IsHeldOrPassed codec session v.receiver h.0) (λ h was low. still (was (omega (arith, low, floors)))) ack.held each) (acks_of w.receiver) inv.acks.named);
          acked = acked_later w call inv;
        };
      }
    where
      still : {n : ℕ} → (k : StoredState S) × Has (decoded codec w.receiver) k × (k.number ≡ n) → (k : StoredState S) × Has (decoded codec (call ∷ w.receiver)) k × (k.number ≡ n)
      still is = (is.0, more is.0 is.1, is.2)

  -- ---- a frame handed out

  pub ready_kept : (w : WorldPast S) → Given codec session w → NamesDifferIn codec w → Invariant codec session w → Invariant codec session (happens codec session w TakesReady)
  ready_kept w g names inv =
      quiet_kept w (TakeReady (ready_answer codec w.receiver)) g names inv refl (append-nil (acks_of w.receiver)) tt tt inv.receiver.held (λ k has. has) inv.receiver.seen

  -- ---- a decoding

  -- a decoding that isn't held, and wasn't refused
  idle_kept : (w : WorldPast S) (n : ℕ) (outcome : DecodeResult S) (answer : Done) → Given codec session w → NamesDifferIn codec w → Invariant codec session w → state_in codec (Decoding n outcome answer) ≡ None → shown_in (Decoding n outcome answer) ≡ None → IsFit (Decoding n outcome answer) → Invariant codec session (receives codec session w (Decoding n outcome answer))
  idle_kept w n outcome answer g names inv none unseen fit =
      let call : ReceiverCall S = Decoding n outcome answer in
      let held_same : decoded codec (call ∷ w.receiver) ≡ decoded codec w.receiver = ap (λ o. cons_option o (decoded codec w.receiver)) none in
      let shown_same : shown (call ∷ w.receiver) ≡ shown w.receiver = ap (λ o. cons_option o (shown w.receiver)) unseen in
      quiet_kept w call g names inv refl (append-nil (acks_of w.receiver)) tt fit
      (subst (Each (IsStateOfNumber codec session w.sender w.receiver)) (sym held_same) inv.receiver.held)
      (λ k has. subst (λ ks. Has ks k) (sym held_same) has)
      (subst (Each (λ s. IsDecoding codec w.sender s.0 s.1)) (sym shown_same) inv.receiver.seen)

  stranger_state : (n : ℕ) (outcome : DecodeResult S) → state_in codec (Decoding n outcome Stranger) ≡ None
  stranger_state n NoMemory = refl
  stranger_state n (Faulty fault) = refl
  stranger_state n (Sound state picture) = refl

  -- what is known of a number that is out
  pub record IsAtWork (w : WorldPast S) (n : ℕ) : Type 0 where
    pub source : S
    pub is_ready : ready_source codec w.receiver n ≡ Some source
    pub frame_is : IsFrameOfNumber codec session w.sender w.receiver n source
    pub sent : IsSent codec session (pictures w.sender) (choices w.sender) n
    pub from_source : source ≡ state_at codec w.sender sent.choice.source
    pub bytes : frame w.receiver n ≡ sent.made.bytes
    pub target : target_name w.receiver n ≡ name_in codec sent.made.target
    pub near : n ≤ floor w.receiver + 15
    pub head_is : head w.receiver ≡ Some session.head

  some_of : (o : Option S) → is_some o ≡ true → (s : S) × (o ≡ Some s)
  some_of None h = absurd (cc)
  some_of (Some s) h = (s, refl)

  at_work : (w : WorldPast S) (n : ℕ) → Given codec session w → Invariant codec session w → (source : S) → ready_source codec w.receiver n ≡ Some source → IsAtWork w n
  at_work w n g inv source is =
      let f : IsFrameOfNumber codec session w.sender w.receiver n source = inv.receiver.frames n source is in
      let sent : IsSent codec session (pictures w.sender) (choices w.sender) n = whole_sent codec session w n g inv.receiver.parts f.whole in
      let choice : f.choice ≡ sent.choice = some_same f.choice sent.choice (sym f.chosen ∙ sent.found) in
      let made : f.made ≡ sent.made = some_same f.made sent.made (sym f.is_made ∙ sent.is_made) in
      let one : (e : FragmentFields) × Has (taken w.receiver) e × (e.number ≡ n) = all_one n (taken w.receiver) f.whole in
      let has : Has (fragments codec session w.sender) one.0 = each_has (Has (fragments codec session w.sender)) (taken w.receiver) one.0 inv.receiver.parts one.1 in
      let close : one.0.number ≤ one.0.floor + 15 = part_near codec session (pictures w.sender) (choices w.sender) one.0 (part_of codec session (pictures w.sender) (choices w.sender) g one.0 has) in
      let low : one.0.floor ≤ floor w.receiver = floor_member (taken w.receiver) one.0 one.1 in
      let own : one.0.number ≡ n = one.2 in
      record {
        source = source;
        is_ready = is;
        frame_is = f;
        sent = sent;
        from_source = f.from_source ∙ ap (λ (c : Choice). state_at codec w.sender c.source) choice;
        bytes = f.bytes ∙ ap (λ m. m.bytes) made;
        target = f.target ∙ ap (λ m. name_in codec m.target) made;
        near = omega arith;
        head_is = head_there w one.0 g inv.receiver.delivered one.1;
      }

  -- a sound decoding of its own frame has its state held
  sound_held : (w : WorldPast S) (n : ℕ) (answer : Done) → Given codec session w → NamesDifferIn codec w → Invariant codec session w → (at : IsAtWork w n)
      → state_in codec (Decoding n (Sound at.sent.made.target at.sent.made.recon) answer) ≡ Some (kept_as codec n at.sent.made.target)
      → (shown_in (Decoding n (Sound at.sent.made.target at.sent.made.recon) answer) ≡ None) ⊎ (shown_in (Decoding n (Sound at.sent.made.target at.sent.made.recon) answer) ≡ Some (n, at.sent.made.recon))
      → IsFit (Decoding n (Sound at.sent.made.target at.sent.made.recon) answer)
      → Invariant codec session (receives codec session w (Decoding n (Sound at.sent.made.target at.sent.made.recon) answer))
  sound_held w n answer g names inv at state seen fit =
      let call : ReceiverCall S = Decoding n (Sound at.sent.made.target at.sent.made.recon) answer in
      let k : StoredState S = kept_as codec n at.sent.made.target in
      let t : tip w.sender ≡ length (choices w.sender) = tip_is (choices w.sender) g.chained in
      let low : n ≤ length (choices w.sender) = number_low (choices w.sender) n at.sent.choice g.chained at.sent.found in
      let held_is : decoded codec (call ∷ w.receiver) ≡ k ∷ decoded codec w.receiver = ap (λ o. cons_option o (decoded codec w.receiver)) state in
      let own : IsStateOfNumber codec session w.sender w.receiver k = record {
        some = omega (arith, at.sent.floor, at.sent.floor_below);
        chosen = omega arith;
        near = at.near;
        state = sym (of_made codec (pictures w.sender) (choices w.sender) n at.sent.made at.sent.is_made);
        name = refl;
      } in
      quiet_kept w call g names inv refl (append-nil (acks_of w.receiver)) tt fit
      (subst (Each (IsStateOfNumber codec session w.sender w.receiver)) (sym held_is) (own, inv.receiver.held))
      (λ x has. subst (λ ks. Has ks x) (sym held_is) (inr has))
      (seen_more (shown_in call) seen)
    where
      is_seen : IsDecoding codec w.sender n at.sent.made.recon
      is_seen = record {
        choice = at.sent.choice;
        chosen = at.sent.found;
        made = at.sent.made;
        is_made = at.sent.is_made;
        reconstruction = refl;
        decoded = record { state = at.sent.made.target; picture = at.sent.made.recon; shown = at.sent.shown };
        decoding = at.sent.decodes;
        same_picture = refl;
      }

      seen_more : (o : Option (ℕ × Picture)) → (o ≡ None) ⊎ (o ≡ Some (n, at.sent.made.recon)) → Each (λ s. IsDecoding codec w.sender s.0 s.1) (cons_option o (shown w.receiver))
      seen_more o (inl e) = subst (λ p. Each (λ s. IsDecoding codec w.sender s.0 s.1) (cons_option p (shown w.receiver))) (sym e) inv.receiver.seen
      seen_more o (inr e) = subst (λ p. Each (λ s. IsDecoding codec w.sender s.0 s.1) (cons_option p (shown w.receiver))) (sym e) (is_seen, inv.receiver.seen)

  sound_by : (w : WorldPast S) (n last : ℕ) (passed : Bool) → Given codec session w → NamesDifferIn codec w → Invariant codec session w → (at : IsAtWork w n) → Invariant codec session (receives codec session w (Decoding n (Sound at.sent.made.target at.sent.made.recon) (cond passed (Older n last) (Show n at.sent.made.recon))))
  sound_by w n last true g names inv at = sound_held w n (Older n last) g names inv at refl (inl refl) tt
  sound_by w n last false g names inv at = sound_held w n (Show n at.sent.made.recon) g names inv at refl (inr refl) tt

  -- its size is the head's and its name is the target's
  sound_is : (w : WorldPast S) (n : ℕ) (at : IsAtWork w n) → outcome_answer codec w.receiver n (Sound at.sent.made.target at.sent.made.recon) ≡ cond (leb n (last_shown (shown w.receiver))) (Older n (last_shown (shown w.receiver))) (Show n at.sent.made.recon)
  sound_is w n at =
      let size : has_size (head w.receiver) at.sent.made.recon ≡ true = ap (λ o. has_size o at.sent.made.recon) at.head_is ∙ and_from _ _ (eq-eqb _ _ at.sent.sides.width) (eq-eqb _ _ at.sent.sides.height) in
      let name : same (name_in codec at.sent.made.target) (target_name w.receiver n) ≡ true = subst (λ x. same (name_in codec at.sent.made.target) x ≡ true) (sym at.target) (same_refl (name_in codec at.sent.made.target)) in
      rw (size, name) refl

  -- the frame is decoded to its target and its reconstruction
  outcome_is : (w : WorldPast S) (n : ℕ) (at : IsAtWork w n) → decoding_of codec (ready_source codec w.receiver n) (frame w.receiver n) true ≡ Sound at.sent.made.target at.sent.made.recon
  outcome_is w n at =
      ap (λ o. decoding_of codec o (frame w.receiver n) true) at.is_ready
      ∙ (ap (λ b. outcome_of codec (codec.decode at.source b)) at.bytes
      ∙ (ap (λ s. outcome_of codec (codec.decode s at.sent.made.bytes)) at.from_source ∙ ap (outcome_of codec) at.sent.decodes))

  -- without memory for it, it is given back
  lacked : (w : WorldPast S) (n : ℕ) (at : IsAtWork w n) → decoding_of codec (ready_source codec w.receiver n) (frame w.receiver n) false ≡ NoMemory
  lacked w n at = ap (λ o. decoding_of codec o (frame w.receiver n) false) at.is_ready

  decoding_step : (w : WorldPast S) (n : ℕ) (outcome : DecodeResult S) (answer : Done) → answer ≡ decoded_answer codec w.receiver n outcome → Invariant codec session (receives codec session w (Decoding n outcome answer)) → Invariant codec session (receives codec session w (Decoding n outcome (decoded_answer codec w.receiver n outcome)))
  decoding_step w n outcome answer e is = subst (λ a. Invariant codec session (receives codec session w (Decoding n outcome a))) e is

  when_out : (w : WorldPast S) (n : ℕ) (outcome : DecodeResult S) → is_out w.receiver n ≡ true → outcome_answer codec w.receiver n outcome ≡ decoded_answer codec w.receiver n outcome
  when_out w n outcome e = rw e refl

  when_not : (w : WorldPast S) (n : ℕ) (outcome : DecodeResult S) → is_out w.receiver n ≡ false → Stranger ≡ decoded_answer codec w.receiver n outcome
  when_not w n outcome e = rw e refl

  decoded_case : (w : WorldPast S) (n : ℕ) (ran out : Bool) → Given codec session w → NamesDifferIn codec w → IsLegalWorld codec session w → Invariant codec session w → is_out w.receiver n ≡ out → Invariant codec session (happens codec session w (Decodes n ran))
  decoded_case w n ran false g names legal inv e =
      let outcome : DecodeResult S = decoding_of codec (ready_source codec w.receiver n) (frame w.receiver n) ran in
      decoding_step w n outcome Stranger (when_not w n outcome e) (idle_kept w n outcome Stranger g names inv (stranger_state n outcome) refl tt)
  decoded_case w n false true g names legal inv e =
      let there = some_of (ready_source codec w.receiver n) (out_open codec w.receiver n legal.receiver e).some in
      let at : IsAtWork w n = at_work w n g inv there.0 there.1 in
      subst (λ o. Invariant codec session (receives codec session w (Decoding n o (decoded_answer codec w.receiver n o)))) (sym (lacked w n at))
      (decoding_step w n NoMemory (Returned n) (when_out w n NoMemory e) (idle_kept w n NoMemory (Returned n) g names inv refl refl tt))
  decoded_case w n true true g names legal inv e =
      let there = some_of (ready_source codec w.receiver n) (out_open codec w.receiver n legal.receiver e).some in
      let at : IsAtWork w n = at_work w n g inv there.0 there.1 in
      let outcome : DecodeResult S = Sound at.sent.made.target at.sent.made.recon in
      subst (λ o. Invariant codec session (receives codec session w (Decoding n o (decoded_answer codec w.receiver n o)))) (sym (outcome_is w n at))
      (decoding_step w n outcome (cond (leb n (last_shown (shown w.receiver))) (Older n (last_shown (shown w.receiver))) (Show n at.sent.made.recon)) (sym (sound_is w n at) ∙ when_out w n outcome e)
      (sound_by w n (last_shown (shown w.receiver)) (leb n (last_shown (shown w.receiver))) g names inv at))

  pub decodes_kept : (w : WorldPast S) (n : ℕ) (ran : Bool) → Given codec session w → NamesDifferIn codec w → IsLegalWorld codec session w → Invariant codec session w → Invariant codec session (happens codec session w (Decodes n ran))
  decodes_kept w n ran g names legal inv = decoded_case w n ran (is_out w.receiver n) g names legal inv refl
