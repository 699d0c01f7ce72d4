-- A receiver stands for a fragment that it took.
use Rattle.std.proofs.Common.{◌≡◌, ℕ, ◌<◌, ◌≤◌, max, Bool, true, false, cond, List, ◌∷◌, Option, Some, None, Ok, is_some, refl, ap, sym, ◌∙◌, subst, arith, ltb, inl}
use Rattle.std.proofs.lemmas.Bool.{ltb-true, ltb-false, le-ltb}
use Rattle.sal_codec.specs.Coding.{Coding}
use Rattle.sal_wire.specs.declared.datagram.Ack.{Ack}
use Rattle.sal_wire.specs.Fields.{FragmentFields}
use Rattle.sal_wire.specs.Message.{FragmentMessage}
use Rattle.sal_wire.specs.Layout.{IsFragment}
use Rattle.sal_reasm.specs.declared.answers.Offered.{Offered}
use Rattle.sal_reasm.specs.declared.answers.Offered.TheVariants.{Repeat, Complete, Kept}
use Rattle.sal_reasm.specs.Complete.{floor_of, with_fragment, fragments_of, data_at, is_complete, frame_bytes}
use Rattle.sal_reasm.specs.Offer.{or_else, offer_answer, clash_with_taken, clash_with_fragments}
use Rattle.sal_budget.specs.Gap.{gap_after, arrived}
use Rattle.sal_chain.specs.Held.{not_below, in_order}
use Rattle.sal_chain.proofs.HeldLemmas.{order_from, from_twice}
use Rattle.sal_receiver.specs.declared.answers.Delivered.TheVariants.{Taken}
use Rattle.sal_receiver.specs.declared.pending_frame.PendingFrame.{PendingFrame}
use Rattle.sal_receiver.specs.Past.{ReceiverCall, Deliver, taken, floor, now, session, head, arrivals, arrival_of, head_of}
use Rattle.sal_receiver.specs.Held.{held, decoded, state_among}
use Rattle.sal_receiver.specs.Answers.{refusal, unless_refused, ack_saying, ack_after, deliver_answer}
use Rattle.sal_receiver.specs.Promises.{ReceiverAnswers}
use Rattle.sal_receiver.specs.Pending.{at, left_from, Rises}
use Rattle.sal_receiver.specs.Machine.{ReceiverState, ReceiverStands, IsEntered, entered, pending}
use Rattle.sal_receiver.proofs.FrameLemmas.{rises_left}
use Rattle.sal_receiver.proofs.Holding.{held_raised, held_stale}
use Rattle.sal_receiver.proofs.Was.{first_parts, clash_none}
use Rattle.sal_receiver.proofs.Offering.{offer_low, offer_stale, stale_frames, repeat_frames, complete_frames, complete_order, kept_frames}

clash_low : (e : FragmentFields) (es : List FragmentFields) → floor_of es ≤ e.number → clash_with_taken es e ≡ None → clash_with_fragments (fragments_of e.number es) e ≡ None
clash_low e es low h = step (ltb e.number (floor_of es)) (le-ltb e.number (floor_of es) low) h
  where
    step : (b : Bool) → b ≡ false → cond b None (clash_with_fragments (fragments_of e.number es) e) ≡ None → clash_with_fragments (fragments_of e.number es) e ≡ None
    step true i h = absurd (cc)
    step false i h = h

floor_step : (b : Bool) (e : FragmentFields) (es : List FragmentFields) → ltb e.number (floor_of es) ≡ b → e.floor ≤ e.number → floor_of (cond b es (e ∷ es)) ≡ max e.floor (floor_of es)
floor_step true e es h low = let a : e.number < floor_of es = ltb-true _ _ h in omega arith
floor_step false e es h low = refl

floor_with : (e : FragmentFields) (es : List FragmentFields) → e.floor ≤ e.number → floor_of (with_fragment e es) ≡ max e.floor (floor_of es)
floor_with e es low = floor_step (ltb e.number (floor_of es)) e es refl low

module _ {S : Type 0} (codec : Coding S) where
  -- what is held stands at or above the floor
  held_again : (past : List (ReceiverCall S)) → not_below (floor past) (held codec past) ≡ held codec past
  held_again past =
      sym (order_from (floor past) (not_below (floor past) (decoded codec past))) ∙ ap (λ xs. in_order xs) (from_twice (floor past) (floor past) (decoded codec past) (omega arith))

  held_step : (b : Bool) (past : List (ReceiverCall S)) (e : FragmentFields) (moment : ℕ) (ack : Ack) → ltb e.number (floor past) ≡ b → e.floor ≤ e.number → held codec (Deliver (Ok (FragmentMessage e)) moment (Taken ack) ∷ past) ≡ not_below (max e.floor (floor past)) (held codec past)
  held_step true past e moment ack h low =
      let a : e.number < floor past = ltb-true _ _ h in
      let same : floor past ≡ max e.floor (floor past) = omega arith in
      held_stale codec past e moment ack a ∙ (sym (held_again past) ∙ ap (λ k. not_below k (held codec past)) same)
  held_step false past e moment ack h low = held_raised codec past e moment ack (ltb-false _ _ h)

  held_entered : (past : List (ReceiverCall S)) (e : FragmentFields) (moment : ℕ) (ack : Ack) → e.floor ≤ e.number → held codec (Deliver (Ok (FragmentMessage e)) moment (Taken ack) ∷ past) ≡ not_below (max e.floor (floor past)) (held codec past)
  held_entered past e moment ack low = held_step (ltb e.number (floor past)) past e moment ack refl low

  pub record AreAfter (past : List (ReceiverCall S)) (e : FragmentFields) (moment : ℕ) (ack : Ack) (fs : List (PendingFrame S)) : Type 0 where
    pub order : Rises 0 fs
    pub frames : (n : ℕ) → at n fs ≡ pending codec (Deliver (Ok (FragmentMessage e)) moment (Taken ack) ∷ past) n

  module _ (r : ReceiverState S) (past : List (ReceiverCall S)) (e : FragmentFields) (moment : ℕ) (ack : Ack) (s : ReceiverStands codec r past) (is : IsFragment e) (none : clash_with_taken (taken past) e ≡ None) where
    abbrev high : ℕ
    high = max e.floor (floor past)

    abbrev found : Option S
    found = state_among codec.initial e.source (not_below high (held codec past))

    after_complete : (b : Bool) → is_complete (e ∷ taken past) e.number ≡ b → floor past ≤ e.number → is_some (data_at (fragments_of e.number (taken past)) e.index) ≡ false → AreAfter past e moment ack (entered (cond b (Complete (frame_bytes (e ∷ taken past) e.number)) Kept) e found (left_from high r.frames))
    after_complete true h low missing = record {
      order = complete_order codec past e moment ack r.frames s.legal is s.order s.frames low (clash_low e (taken past) low none) missing;
      frames = λ n. complete_frames codec past e moment ack r.frames s.legal is s.order s.frames low (clash_low e (taken past) low none) missing n h;
    }
    after_complete false h low missing = record {
      order = rises_left 0 high r.frames s.order;
      frames = λ n. kept_frames codec past e moment ack r.frames s.legal is s.order s.frames low (clash_low e (taken past) low none) missing n h;
    }

    after_there : (b : Bool) → is_some (data_at (fragments_of e.number (taken past)) e.index) ≡ b → floor past ≤ e.number → AreAfter past e moment ack (entered (cond b Repeat (cond (is_complete (e ∷ taken past) e.number) (Complete (frame_bytes (e ∷ taken past) e.number)) Kept)) e found (left_from high r.frames))
    after_there true h low = record {
      order = rises_left 0 high r.frames s.order;
      frames = λ n. repeat_frames codec past e moment ack r.frames s.legal is s.order s.frames n low (s.slots.named e.number) (clash_low e (taken past) low none) h;
    }
    after_there false h low = after_complete (is_complete (e ∷ taken past) e.number) refl low h

    after_low : (b : Bool) → ltb e.number (floor past) ≡ b → AreAfter past e moment ack (entered (offer_answer (taken past) e) e found (left_from high r.frames))
    after_low true h =
        let a : e.number < floor past = ltb-true _ _ h in
        subst (λ (o : Offered). AreAfter past e moment ack (entered o e found (left_from high r.frames))) (sym (offer_stale e (taken past) a))
        (record { order = rises_left 0 high r.frames s.order; frames = λ n. stale_frames codec past e moment ack r.frames s.legal is s.order s.frames n a })
    after_low false h =
        let a : floor past ≤ e.number = ltb-false _ _ h in
        subst (λ (o : Offered). AreAfter past e moment ack (entered o e found (left_from high r.frames))) (sym (offer_low e (taken past) a (clash_low e (taken past) a none)))
        (after_there (is_some (data_at (fragments_of e.number (taken past)) e.index)) refl a)

    -- whatever the slots answered, the frames are those of the calls
    pub frames_after : AreAfter past e moment ack (entered (offer_answer (taken past) e) e found (left_from high r.frames))
    frames_after = after_low (ltb e.number (floor past)) refl

  -- a fragment that is taken
  pub entered_stands : (r r' : ReceiverState S) (past : List (ReceiverCall S)) (e : FragmentFields) (moment : ℕ) (ack : Ack) → ReceiverStands codec r past → IsFragment e → refusal (session past) (head past) (taken past) e ≡ None → IsEntered codec.initial r r' e moment (taken past) → ack ≡ ack_saying e.session r'.known.gap r'.store.kept
      → ReceiverAnswers codec (Deliver (Ok (FragmentMessage e)) moment (Taken ack)) past × ReceiverStands codec r' (Deliver (Ok (FragmentMessage e)) moment (Taken ack) ∷ past)
  unfolding gap_after
  entered_stands r r' past e moment ack s is none into acks =
      let like : clash_with_taken (taken past) e ≡ None = clash_none (clash_with_taken (taken past) e) (first_parts _ _ (first_parts _ _ none).1).1 in
      let same : max r.store.floor e.floor ≡ max e.floor (floor past) = (let f : r.store.floor ≡ floor past = s.floor in omega arith) in
      let gap : r'.known.gap ≡ gap_after (arrival_of e (max moment (now past)) ∷ arrivals past) =
      ap (λ l. l.gap) into.known ∙ (ap (λ m. arrived (arrival_of e (max moment m)) r.known.gap) s.moment ∙ ap (λ g. arrived (arrival_of e (max moment (now past))) g) s.gap) in
      let kept : r'.store.kept ≡ held codec (Deliver (Ok (FragmentMessage e)) moment (Taken ack) ∷ past) =
      ap (λ h. h.kept) into.store ∙ (ap (λ k. not_below k r.store.kept) same ∙ (ap (λ ks. not_below (max e.floor (floor past)) ks) s.kept ∙ sym (held_entered past e moment ack is.floor_below))) in
      let frames : r'.frames ≡ entered (offer_answer (taken past) e) e (state_among codec.initial e.source (not_below (max e.floor (floor past)) (held codec past))) (left_from (max e.floor (floor past)) r.frames) =
      into.frames
      ∙ (ap (λ k. entered (offer_answer (taken past) e) e (state_among codec.initial e.source (not_below k r.store.kept)) (left_from k r.frames)) same
      ∙ ap (λ ks. entered (offer_answer (taken past) e) e (state_among codec.initial e.source (not_below (max e.floor (floor past)) ks)) (left_from (max e.floor (floor past)) r.frames)) s.kept) in
      let answer : Taken ack ≡ deliver_answer codec past (Ok (FragmentMessage e)) moment =
      ap (λ a. Taken a) (acks ∙ (ap (λ g. ack_saying e.session g r'.store.kept) gap ∙ ap (λ ks. ack_saying e.session (gap_after (arrival_of e (max moment (now past)) ∷ arrivals past)) ks) kept))
      ∙ sym (ap (λ o. unless_refused o (Taken (ack_after codec past e moment))) none) in
      let after : AreAfter past e moment ack r'.frames = subst (λ (xs : List (PendingFrame S)). AreAfter past e moment ack xs) (sym frames) (frames_after r past e moment ack s is like) in (
        inl answer,
        record {
          legal = (inl answer, s.legal);
          session = ap (λ l. l.session) into.known ∙ ap (λ x. or_else x (Some e.session)) s.session;
          head = ap (λ l. l.head) into.known ∙ ap (λ x. or_else x (Some (head_of e))) s.head;
          moment = ap (λ l. l.moment) into.known ∙ ap (λ m. max moment m) s.moment;
          gap = gap;
          slots = into.slots;
          floor = ap (λ h. h.floor) into.store ∙ (same ∙ sym (floor_with e (taken past) is.floor_below));
          kept = kept;
          order = after.order;
          frames = after.frames;
          last = into.last ∙ s.last;
        },
      )
