-- A receiver stands for one more call.
use Rattle.std.proofs.Common.{◌≡◌, ℕ, max, Bool, true, false, ◌&&◌, List, [], ◌∷◌, Some, None, Result, Ok, Err, refl, ap, sym, ◌∙◌, subst, arith, leb, inl, inr}
use Rattle.std.specs.Option.{option_map}
use Rattle.sal_codec.specs.Coding.{Coding}
use Rattle.sal_wire.specs.declared.fault.WireFault.{WireFault}
use Rattle.sal_wire.specs.Fields.{FragmentFields}
use Rattle.sal_wire.specs.Message.{Message, FragmentMessage, AckMessage, ByeMessage}
use Rattle.sal_wire.specs.Fragmentation.{below}
use Rattle.sal_reasm.specs.Complete.{floor_of}
use Rattle.sal_reasm.specs.SlotTable.{SlotTable}
use Rattle.sal_reasm.specs.Stands.{SlotsStand}
use Rattle.sal_budget.specs.Gap.{gap_after}
use Rattle.sal_chain.specs.declared.stored_state.StoredState.{StoredState}
use Rattle.sal_chain.specs.StateTable.{empty_table}
use Rattle.sal_receiver.specs.declared.answers.Delivered.TheVariants.{Ended, Refused, Memory}
use Rattle.sal_receiver.specs.declared.answers.Refuse.{Refuse}
use Rattle.sal_receiver.specs.declared.pending_frame.PendingFrame.{PendingFrame}
use Rattle.sal_receiver.specs.Past.{ReceiverCall, Deliver, taken, shown, now, session, head, arrivals, session_in, head_in, moment_in}
use Rattle.sal_receiver.specs.Held.{held}
use Rattle.sal_receiver.specs.Ready.{ready_source}
use Rattle.sal_receiver.specs.Answers.{last_shown, session_cause, unless_refused, deliver_answer}
use Rattle.sal_receiver.specs.Promises.{ReceiverAnswers, IsTaken}
use Rattle.sal_receiver.specs.Known.{nothing_known, known_after_end}
use Rattle.sal_receiver.specs.Pending.{at, Rises}
use Rattle.sal_receiver.specs.Machine.{ReceiverState, ReceiverStands, pending, pending_as, stage_of}
use Rattle.sal_receiver.proofs.Lasting.{quiet, right_same}
use Rattle.sal_receiver.proofs.BookLemmas.{book}

nothing_yet : {S : Type 0} (b : Bool) (source target bytes : List ℕ) (n : ℕ) → None ≡ option_map (pending_as {S = S} n source target) (stage_of false false None (b && false) bytes)
nothing_yet true source target bytes n = refl
nothing_yet false source target bytes n = refl

no_moment : (m n : ℕ) → m ≡ 0 → n ≡ max m n
no_moment m n h = omega (arith, h)

module _ {S : Type 0} (codec : Coding S) where
  -- a new receiver stands for no calls
  pub stands_new : (slots : SlotTable) → SlotsStand slots [] → ReceiverStands codec (book nothing_known slots empty_table [] 0) []
  unfolding gap_after ready_source below
  stands_new slots keeps = record {
    legal = tt;
    session = refl;
    head = refl;
    moment = refl;
    gap = refl;
    slots = keeps;
    floor = refl;
    kept = refl;
    order = tt;
    frames = λ n. nothing_yet (leb 1 n) [] [] [] n;
    last = refl;
  }

  -- a call that takes no datagram
  pub stands_calm : (r : ReceiverState S) (fs : List (PendingFrame S)) (kept : List (StoredState S)) (last : ℕ) (call : ReceiverCall S) (past : List (ReceiverCall S)) → ReceiverStands codec r past → ReceiverAnswers codec call past → taken (call ∷ past) ≡ taken past → session_in call ≡ None → head_in call ≡ None → moment_in call ≡ 0 → arrivals (call ∷ past) ≡ arrivals past → kept ≡ held codec (call ∷ past) → last ≡ last_shown (shown (call ∷ past)) → Rises 0 fs → ((n : ℕ) → at n fs ≡ pending codec (call ∷ past) n)
      → ReceiverStands codec (book r.known r.slots (record { floor = r.store.floor; kept = kept }) fs last) (call ∷ past)
  stands_calm r fs kept last call past s answers t a b c v k l rises frames = record {
    legal = (answers, s.legal);
    session = s.session ∙ sym (right_same (session past) (session_in call) a);
    head = s.head ∙ sym (right_same (head past) (head_in call) b);
    moment = s.moment ∙ no_moment (moment_in call) (now past) c;
    gap = s.gap ∙ ap gap_after (sym v);
    slots = subst (λ (es : List FragmentFields). SlotsStand r.slots es) (sym t) s.slots;
    floor = s.floor ∙ ap (λ es. floor_of es) (sym t);
    kept = k;
    order = rises;
    frames = frames;
    last = l;
  }

  -- what is refused changes nothing
  refused_case : (r : ReceiverState S) (came : Result Message WireFault) (moment : ℕ) (cause : Refuse) (past : List (ReceiverCall S)) → ReceiverStands codec r past → Refused cause ≡ deliver_answer codec past came moment → ReceiverStands codec r (Deliver came moment (Refused cause) ∷ past)
  refused_case r (Err fault) moment cause past s h =
      stands_calm r r.frames r.store.kept r.last (Deliver (Err fault) moment (Refused cause)) past s (inl h) refl refl refl refl refl s.kept s.last s.order (λ n. s.frames n ∙ sym (quiet codec (Deliver (Err fault) moment (Refused cause)) past n refl refl refl refl))
  refused_case r (Ok (AckMessage ack)) moment cause past s h =
      stands_calm r r.frames r.store.kept r.last (Deliver (Ok (AckMessage ack)) moment (Refused cause)) past s (inl h) refl refl refl refl refl s.kept s.last s.order (λ n. s.frames n ∙ sym (quiet codec (Deliver (Ok (AckMessage ack)) moment (Refused cause)) past n refl refl refl refl))
  refused_case r (Ok (ByeMessage number last)) moment cause past s h =
      stands_calm r r.frames r.store.kept r.last (Deliver (Ok (ByeMessage number last)) moment (Refused cause)) past s (inl h) refl refl refl refl refl s.kept s.last s.order (λ n. s.frames n ∙ sym (quiet codec (Deliver (Ok (ByeMessage number last)) moment (Refused cause)) past n refl refl refl refl))
  refused_case r (Ok (FragmentMessage e)) moment cause past s h =
      stands_calm r r.frames r.store.kept r.last (Deliver (Ok (FragmentMessage e)) moment (Refused cause)) past s (inl h) refl refl refl refl refl s.kept s.last s.order (λ n. s.frames n ∙ sym (quiet codec (Deliver (Ok (FragmentMessage e)) moment (Refused cause)) past n refl refl refl refl))

  pub refused : (r : ReceiverState S) (came : Result Message WireFault) (moment : ℕ) (cause : Refuse) (past : List (ReceiverCall S)) → ReceiverStands codec r past → Refused cause ≡ deliver_answer codec past came moment → ReceiverAnswers codec (Deliver came moment (Refused cause)) past × ReceiverStands codec r (Deliver came moment (Refused cause) ∷ past)
  refused r came moment cause past s h = (inl h, refused_case r came moment cause past s h)

  -- nor does want of memory
  pub without_memory : (r : ReceiverState S) (e : FragmentFields) (moment : ℕ) (past : List (ReceiverCall S)) → ReceiverStands codec r past → IsTaken (deliver_answer codec past (Ok (FragmentMessage e)) moment) → ReceiverAnswers codec (Deliver (Ok (FragmentMessage e)) moment Memory) past × ReceiverStands codec r (Deliver (Ok (FragmentMessage e)) moment Memory ∷ past)
  without_memory r e moment past s h = (
    inr (refl, h),
    stands_calm r r.frames r.store.kept r.last (Deliver (Ok (FragmentMessage e)) moment Memory) past s (inr (refl, h)) refl refl refl refl refl s.kept s.last s.order (λ n. s.frames n ∙ sym (quiet codec (Deliver (Ok (FragmentMessage e)) moment Memory) past n refl refl refl refl)),
  )

  -- an end
  ended_answer : (r : ReceiverState S) (number last moment : ℕ) (past : List (ReceiverCall S)) → ReceiverStands codec r past → session_cause r.known.session number ≡ None → Ended last ≡ deliver_answer codec past (Ok (ByeMessage number last)) moment
  ended_answer r number last moment past s h = sym (ap (λ o. unless_refused o (Ended last)) (ap (λ x. session_cause x number) (sym s.session) ∙ h))

  pub ended : (r : ReceiverState S) (number last moment : ℕ) (past : List (ReceiverCall S)) → ReceiverStands codec r past → session_cause r.known.session number ≡ None
      → ReceiverAnswers codec (Deliver (Ok (ByeMessage number last)) moment (Ended last)) past × ReceiverStands codec (book (known_after_end number moment r.known) r.slots r.store r.frames r.last) (Deliver (Ok (ByeMessage number last)) moment (Ended last) ∷ past)
  ended r number last moment past s h = (
    inl (ended_answer r number last moment past s h),
    record {
      legal = (inl (ended_answer r number last moment past s h), s.legal);
      session = ap (λ x. Rattle.sal_reasm.specs.Offer.or_else x (Some number)) s.session;
      head = s.head ∙ sym (right_same (head past) None refl);
      moment = ap (λ m. max moment m) s.moment;
      gap = s.gap;
      slots = s.slots;
      floor = s.floor;
      kept = s.kept;
      order = s.order;
      frames = λ n. s.frames n ∙ sym (quiet codec (Deliver (Ok (ByeMessage number last)) moment (Ended last)) past n refl refl refl refl);
      last = s.last;
    },
  )

  refused_end_answer : (r : ReceiverState S) (number last moment : ℕ) (cause : Refuse) (past : List (ReceiverCall S)) → ReceiverStands codec r past → session_cause r.known.session number ≡ Some cause → Refused cause ≡ deliver_answer codec past (Ok (ByeMessage number last)) moment
  refused_end_answer r number last moment cause past s h = sym (ap (λ o. unless_refused o (Ended last)) (ap (λ x. session_cause x number) (sym s.session) ∙ h))

  pub refused_end : (r : ReceiverState S) (number last moment : ℕ) (cause : Refuse) (past : List (ReceiverCall S)) → ReceiverStands codec r past → session_cause r.known.session number ≡ Some cause → ReceiverAnswers codec (Deliver (Ok (ByeMessage number last)) moment (Refused cause)) past × ReceiverStands codec r (Deliver (Ok (ByeMessage number last)) moment (Refused cause) ∷ past)
  refused_end r number last moment cause past s h = refused r (Ok (ByeMessage number last)) moment cause past s (refused_end_answer r number last moment cause past s h)
