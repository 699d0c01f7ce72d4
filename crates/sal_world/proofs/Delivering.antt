-- A datagram that comes is taken, and keeps the invariant.
use Rattle.std.proofs.Common.{◌≡◌, ℕ, zero, suc, ◌+◌, ◌-◌, ◌^◌, ◌≤◌, ◌<◌, max, Bool, true, false, cond, List, [], ◌∷◌, length, map, Option, Some, None, Ok, refl, ap, sym, ◌∙◌, subst, arith, ltb, inl, inr, ◌⊎◌}
use Rattle.std.proofs.lemmas.Bool.{eq-eqb}
use Rattle.std.proofs.lemmas.List.{length-map}
use Rattle.sal_base.specs.Lists.{Has, Each}
use Rattle.sal_base.specs.declared.name.Name.{Name}
use Rattle.sal_codec.specs.Coding.{Coding}
use Rattle.sal_y4m.specs.declared.head.Head.{Head}
use Rattle.sal_wire.specs.Fields.{FragmentFields}
use Rattle.sal_wire.specs.Message.{FragmentMessage}
use Rattle.sal_wire.specs.Parsing.{parsed}
use Rattle.sal_wire.specs.Layout.{fragment_bytes, IsWireName}
use Rattle.sal_wire.specs.declared.datagram.Ack.{Ack}
use Rattle.sal_reasm.specs.Complete.{floor_of, with_fragment, fragments_of, has_all}
use Rattle.sal_reasm.specs.Offer.{Difference, clash_with_fragments, clash_with_taken}
use Rattle.sal_budget.specs.Gap.{Arrival, gap_after}
use Rattle.sal_chain.specs.declared.stored_state.StoredState.{StoredState}
use Rattle.sal_chain.specs.Held.{in_order, not_below, number_and_name}
use Rattle.sal_sender.specs.Past.{choices, pictures, datagrams, tip}
use Rattle.sal_chain.specs.Held.{name_in}
use Rattle.sal_sender.specs.Chain.{state_at}
use Rattle.sal_sender.specs.OneThread.{Session}
use Rattle.sal_sender.proofs.Thread.{thread_of_legal}
use Rattle.sal_sender.proofs.Sound.{tip_is}
use Rattle.sal_receiver.specs.declared.answers.Delivered.TheVariants.{Taken}
use Rattle.sal_receiver.specs.declared.answers.Refuse.{Refuse}
use Rattle.sal_receiver.specs.Past.{ReceiverCall, Deliver, TakeReady, Decoding, taken, shown, head, head_of, arrival_of, arrivals, now, floor}
use Rattle.sal_receiver.specs.Past.{session as session_of}
use Rattle.sal_receiver.specs.Held.{decoded}
use Rattle.sal_receiver.specs.Answers.{same_head, session_cause, size_cause, clash_cause, first_of, unless_refused, held_at_fragment, ack_after, deliver_answer}
use Rattle.sal_world.specs.World.{WorldPast, Delivers, at_number, sent, acks_of, delivered_if_sent, delivered, happens}
use Rattle.sal_world.specs.Promises.{NamesDifferIn, IsDecoding}
use Rattle.sal_world.specs.Invariant.{Invariant, fragments, IsOfSentFragment, IsStateOfNumber, NamesItsState, IsAckOfSent, IsHeldOrPassed}
use Rattle.sal_world.proofs.ListLemmas.{got_has, has_mapped, each_append, each_has, each_map, each_of}
use Rattle.sal_world.proofs.Legal.{IsLegalWorld}
use Rattle.sal_world.proofs.Numbers.{IsSent, IsPiece, sent_piece}
use Rattle.sal_world.proofs.Given.{part_of, came_text, serial_fits, name_sent}
use Rattle.sal_world.proofs.Whole.{no_clash, all_stay, each_taken, whole_stays}
use Rattle.sal_world.proofs.HandedOut.{distinct}
use Rattle.sal_world.proofs.Ordered.{Rises, each_order, each_from, from_low, distinct_from, rises_order, rises_lower, few_between, are_rising, gap_low, gap_serial}
use Rattle.sal_world.proofs.FrameOf.{Given, receives, says_of, parts_say, whole_sent, next_frames}
use Rattle.sal_world.proofs.Receiving.{sent_call, head_is, head_known, session_known, same_seen, same_ack, acked_later}
use Rattle.sal_world.proofs.Windows.{behind_of}

-- ---- nothing is refused

same_heads : (h : Head) → same_head h h ≡ true
same_heads h = rw (eq-eqb h.width h.width refl, eq-eqb h.height h.height refl, eq-eqb h.rate.0 h.rate.0 refl, eq-eqb h.rate.1 h.rate.1 refl) refl

no_session_cause : (known : Option ℕ) (own number : ℕ) → (known ≡ Some own) ⊎ (known ≡ None) → number ≡ own → session_cause known number ≡ None
no_session_cause None own number is e = refl
no_session_cause (Some k) own number (inl h) e = let same : k ≡ own = cc in rw (eq-eqb k number (same ∙ sym e)) refl
no_session_cause (Some k) own number (inr h) e = absurd (cc)

no_size_cause : (known : Option Head) (own new : Head) → (known ≡ Some own) ⊎ (known ≡ None) → new ≡ own → size_cause known new ≡ None
no_size_cause None own new is e = refl
no_size_cause (Some k) own new (inl h) e = let same : k ≡ own = cc in rw (same, e, same_heads own) refl
no_size_cause (Some k) own new (inr h) e = absurd (cc)

none_of : (a b c : Option Refuse) → a ≡ None → b ≡ None → c ≡ None → first_of a (first_of b c) ≡ None
none_of None None c x y z = z
none_of None (Some b) c x y z = absurd (cc)
none_of (Some a) b c x y z = absurd (cc)

no_clash_below : (b : Bool) (o : Option Difference) → o ≡ None → clash_cause (cond b None o) ≡ None
no_clash_below true o e = refl
no_clash_below false o e = ap clash_cause e

floor_step : (b : Bool) (e : FragmentFields) (es : List FragmentFields) → floor_of es ≤ floor_of (cond b es (e ∷ es))
floor_step true e es = omega arith
floor_step false e es = omega arith

-- a floor never falls
pub floor_rises : (e : FragmentFields) (es : List FragmentFields) → floor_of es ≤ floor_of (with_fragment e es)
floor_rises e es = floor_step (ltb e.number (floor_of es)) e es

floor_some : (es : List FragmentFields) → 1 ≤ floor_of es
floor_some [] = omega arith
floor_some (e ∷ es) = let more : 1 ≤ floor_of es = floor_some es in omega arith

max_either : (P : ℕ → Type 0) (a b : ℕ) → P a → P b → (a < b) ⊎ (b ≤ a) → P (max a b)
max_either P a b p q (inl h) = subst P (let e : b ≡ max a b = omega arith in e) q
max_either P a b p q (inr h) = subst P (let e : a ≡ max a b = omega arith in e) p

floor_either : (P : ℕ → Type 0) (b : Bool) (e : FragmentFields) (es : List FragmentFields) → P e.floor → P (floor_of es) → P (floor_of (cond b es (e ∷ es)))
floor_either P true e es p q = q
floor_either P false e es p q = max_either P e.floor (floor_of es) p q (Rattle.std.proofs.lemmas.Bool.cases_lt e.floor (floor_of es))

each_label : {T : Type 0} (P : ℕ × Name → Type 0) (kept : List (StoredState T)) → Each (λ k. P (number_and_name k)) kept → Each P (map number_and_name kept)
each_label P [] each = tt
each_label P (k ∷ kept) each = (each.0, each_label P kept each.1)

module _ {S : Type 0} (codec : Coding S) (session : Session) where
  weaker : (w : WorldPast S) → (head w.receiver ≡ Some session.head) ⊎ ((head w.receiver ≡ None) × (taken w.receiver ≡ [])) → (head w.receiver ≡ Some session.head) ⊎ (head w.receiver ≡ None)
  weaker w (inl a) = inl a
  weaker w (inr b) = inr b.0

  number_of : (w : WorldPast S) (e : FragmentFields) → Given codec session w → Has (fragments codec session w.sender) e → IsSent codec session (pictures w.sender) (choices w.sender) e.number
  number_of w e g has = (part_of codec session (pictures w.sender) (choices w.sender) g e has).sent

  -- a fragment that was sent is taken
  taken_answer : (w : WorldPast S) (e : FragmentFields) → Given codec session w → Invariant codec session w → Has (fragments codec session w.sender) e → deliver_answer codec w.receiver (Ok (FragmentMessage e)) w.moment ≡ Taken (ack_after codec w.receiver e w.moment)
  taken_answer w e g inv has =
      let p : IsPiece codec session (pictures w.sender) (choices w.sender) e = sent_piece codec session (pictures w.sender) (choices w.sender) g.chained e has in
      let sent : IsSent codec session (pictures w.sender) (choices w.sender) e.number = number_of w e g has in
      let a : session_cause (session_of w.receiver) e.session ≡ None = no_session_cause (session_of w.receiver) session.number e.session (session_known codec session w w.receiver g inv.receiver.delivered) p.own in
      let b : size_cause (head w.receiver) (head_of e) ≡ None = no_size_cause (head w.receiver) session.head (head_of e) (weaker w (head_known codec session w w.receiver g inv.receiver.delivered)) (head_is codec session w e g has) in
      let c : clash_cause (clash_with_taken (taken w.receiver) e) ≡ None = no_clash_below (ltb e.number (floor_of (taken w.receiver))) (clash_with_fragments (fragments_of e.number (taken w.receiver)) e)
      (no_clash _ _ sent.made.bytes (fragments_of e.number (taken w.receiver)) e (parts_say codec session w e.number sent (taken w.receiver) g inv.receiver.parts) (says_of codec session w e.number sent e g has refl)) in
      ap (λ o. unless_refused o (Taken (ack_after codec w.receiver e w.moment))) (none_of (session_cause (session_of w.receiver) e.session) (size_cause (head w.receiver) (head_of e)) (clash_cause (clash_with_taken (taken w.receiver) e)) a b c)

  -- ---- the acknowledgement

  -- the serials of what arrived are those of fragments that were sent
  abbrev AreSerials : WorldPast S → List (ReceiverCall S) → Type 0
  AreSerials w past = Each (λ (a : Arrival). a.serial ≤ length (fragments codec session w.sender)) (arrivals past)

  serials : (w : WorldPast S) (past : List (ReceiverCall S)) → Given codec session w → Each (IsOfSentFragment codec session w.sender) past → AreSerials w past
  serials w [] g each = tt
  serials w (TakeReady answer ∷ past) g each = serials w past g each.1
  serials w (Decoding n outcome answer ∷ past) g each = serials w past g each.1
  serials w (Deliver parsed moment answer ∷ past) g each =
      sent_call codec session (λ call. AreSerials w (call ∷ past)) w parsed moment answer
      (λ e ack has. ((sent_piece codec session (pictures w.sender) (choices w.sender) g.chained e has).serial_below, serials w past g each.1)) each.0

  -- what is held after a fragment: states of numbers in a window from the floor on
  pub record IsHeldAfter (w : WorldPast S) (floor : ℕ) (k : StoredState S) : Type 0 where
    pub low : floor ≤ k.number
    pub near : k.number ≤ floor + 15
    pub few : k.number ≤ 1048575
    pub chosen : k.number ≤ tip w.sender
    pub state : k.state ≡ state_at codec w.sender k.number
    pub name : k.name.0 ≡ name_in codec k.state
    pub among : Has (decoded codec w.receiver) k

  from_after : (w : WorldPast S) (floor : ℕ) (kept : List (StoredState S)) → Each (λ k. floor ≤ k.number → IsHeldAfter w floor k) kept → Each (IsHeldAfter w floor) (not_below floor kept)
  from_after w floor kept each = both (not_below floor kept) (from_low floor kept) (each_from (λ k. floor ≤ k.number → IsHeldAfter w floor k) floor kept each)
    where
      both : (xs : List (StoredState S)) → Each (λ k. floor ≤ k.number) xs → Each (λ k. floor ≤ k.number → IsHeldAfter w floor k) xs → Each (IsHeldAfter w floor) xs
      both [] a b = tt
      both (x ∷ xs) a b = (b.0 a.0, both xs a.1 b.1)

  held_are : (w : WorldPast S) (high : ℕ) → Given codec session w → Invariant codec session w → floor w.receiver ≤ high → Each (IsHeldAfter w high) (in_order (not_below high (decoded codec w.receiver)))
  held_are w high g inv rises =
      let t : tip w.sender ≡ length (choices w.sender) = tip_is (choices w.sender) g.chained in
      let few : length (choices w.sender) ≤ 1048575 = g.few in
      each_order (IsHeldAfter w high) (not_below high (decoded codec w.receiver))
      (from_after w high (decoded codec w.receiver)
      (each_of (λ k. high ≤ k.number → IsHeldAfter w high k) (decoded codec w.receiver)
      (λ k has low.
      let is : IsStateOfNumber codec session w.sender w.receiver k = each_has (IsStateOfNumber codec session w.sender w.receiver) (decoded codec w.receiver) k inv.receiver.held has in
      record { low = low; near = omega (arith, is.near); few = omega (arith, is.chosen); chosen = is.chosen; state = is.state; name = is.name; among = has })))

  name_is_sent : (w : WorldPast S) (k : StoredState S) → Given codec session w → k.name.0 ≡ name_in codec k.state → IsWireName k.name.0
  name_is_sent w k g e = subst IsWireName (sym e) (name_sent (codec.digest k.state) (g.law.digest_size k.state))

  own_ack : (w : WorldPast S) (e : FragmentFields) → Given codec session w → IsLegalWorld codec session w → Invariant codec session w → Has (fragments codec session w.sender) e → IsAckOfSent codec session w.sender (ack_after codec w.receiver e w.moment)
  own_ack w e g legal inv has =
      let p : IsPiece codec session (pictures w.sender) (choices w.sender) e = sent_piece codec session (pictures w.sender) (choices w.sender) g.chained e has in
      let high : ℕ = floor_of (with_fragment e (taken w.receiver)) in
      let some : 1 ≤ high = floor_some (with_fragment e (taken w.receiver)) in
      let rises : floor w.receiver ≤ high = floor_rises e (taken w.receiver) in
      let kept : List (StoredState S) = held_at_fragment codec w.receiver e in
      let are : Each (IsHeldAfter w high) kept = held_are w high g inv rises in
      let came_in : List Arrival = arrival_of e (max w.moment (now w.receiver)) ∷ arrivals w.receiver in
      let serial : (gap_after came_in).greatest ≤ length (fragments codec session w.sender) = gap_serial came_in (length (fragments codec session w.sender)) (p.serial_below, serials w w.receiver g inv.receiver.delivered) in
      let average : (gap_after came_in).average ≤ 10000000 = gap_low came_in in
      let order : Rises (high - 1) kept =
      rises_order (high - 1) (not_below high (decoded codec w.receiver)) (each_map (λ k. high ≤ k.number) (λ k. (high - 1) < k.number) (λ k low. omega arith) (not_below high (decoded codec w.receiver)) (from_low high (decoded codec w.receiver))) (distinct_from high (decoded codec w.receiver) (distinct codec w.receiver legal.receiver)) in
      let count : length kept ≤ (high + 15) - (high - 1) = few_between (high - 1) (high + 15) kept order (each_map (IsHeldAfter w high) (λ k. k.number ≤ high + 15) (λ k is. is.near) kept are) in
      let fits : length (fragments codec session w.sender) < 2 ^ 32 = serial_fits codec session (pictures w.sender) (choices w.sender) g in
      record {
        own = p.own;
        sent = serial;
        fits = record { session = omega (arith, p.own, g.session_is.number); serial = omega (arith, serial, fits); gap = omega (arith, average) };
        is = record {
          few = omega (arith, length-map kept (number_and_name {S = S}), count);
          rising = are_rising 0 kept (rises_lower (high - 1) 0 kept (omega arith) order) (each_map (IsHeldAfter w high) (λ k. (k.number ≤ 1048575) × IsWireName k.name.0) (λ k is. (is.few, name_is_sent w k g is.name)) kept are);
        };
        states = each_label (NamesItsState codec session w.sender) kept (each_map (IsHeldAfter w high) (λ k. NamesItsState codec session w.sender (number_and_name k)) (λ k is. (is.chosen, is.name ∙ ap (name_in codec) is.state)) kept are);
      }

  -- ---- a fragment that was sent comes

  abbrev pub came_call : WorldPast S → FragmentFields → ReceiverCall S
  came_call w e = Deliver (Ok (FragmentMessage e)) w.moment (Taken (ack_after codec w.receiver e w.moment))

  passed_later : (w : WorldPast S) (e : FragmentFields) (n : ℕ) → IsHeldOrPassed codec session w.receiver n → IsHeldOrPassed codec session (receives codec session w (came_call w e)).receiver n
  passed_later w e n was low = let rises : floor w.receiver ≤ floor_of (with_fragment e (taken w.receiver)) = floor_rises e (taken w.receiver) in was (omega arith)

  part_kept : (w : WorldPast S) (e : FragmentFields) → Given codec session w → NamesDifferIn codec w → IsLegalWorld codec session w → Invariant codec session w → Has (fragments codec session w.sender) e → Invariant codec session (receives codec session w (came_call w e))
  part_kept w e g names legal inv has =
      let v : WorldPast S = receives codec session w (came_call w e) in
      let ack : Ack = ack_after codec w.receiver e w.moment in
      let high : ℕ = floor_of (with_fragment e (taken w.receiver)) in
      let rises : floor w.receiver ≤ high = floor_rises e (taken w.receiver) in
      let parts : Each (Has (fragments codec session w.sender)) (with_fragment e (taken w.receiver)) = each_taken (Has (fragments codec session w.sender)) e (taken w.receiver) has inv.receiver.parts in
      let held : Each (IsStateOfNumber codec session v.sender v.receiver) (decoded codec w.receiver) = each_map (IsStateOfNumber codec session w.sender w.receiver) (IsStateOfNumber codec session v.sender v.receiver) (λ k is. record { some = is.some; chosen = is.chosen; near = omega (arith, is.near, rises); state = is.state; name = is.name }) (decoded codec w.receiver) inv.receiver.held in
      let new : Each (λ h. IsHeldOrPassed codec session v.receiver h.0) ack.held = each_label (λ h. IsHeldOrPassed codec session v.receiver h.0) (held_at_fragment codec w.receiver e) (each_map (IsHeldAfter w high) (λ k. IsHeldOrPassed codec session v.receiver k.number) (λ k is low. (k, is.among, refl)) (held_at_fragment codec w.receiver e) (held_are w high g inv rises)) in
      let bound = floor_either (λ f. (f ≡ 1) ⊎ ((x : FragmentFields) × Has (fragments codec session w.sender) x × (x.floor ≡ f))) (ltb e.number (floor_of (taken w.receiver))) e (taken w.receiver) (inr (e, has, refl)) inv.receiver.floor in
      record {
        sender = inv.sender;
        receiver = record {
          delivered = ((e, has, refl, tt), inv.receiver.delivered);
          floor = bound;
          behind = behind_of codec session w.sender high inv.sender.sound.chained bound;
          parts = parts;
          held = held;
          fit = (tt, inv.receiver.fit);
          seen = each_map (λ s. IsDecoding codec w.sender s.0 s.1) (λ s. IsDecoding codec v.sender s.0 s.1) (λ s is. same_seen codec session w (came_call w e) s is) (shown w.receiver) inv.receiver.seen;
          frames = next_frames codec session w (came_call w e) g names parts held (λ n all. stays n all) inv.receiver.frames;
        };
        acks = record {
          heard = inv.acks.heard;
          acks = each_append (IsAckOfSent codec session v.sender) (acks_of w.receiver) (ack ∷ []) (each_map (IsAckOfSent codec session w.sender) (IsAckOfSent codec session v.sender) (same_ack codec session w (came_call w e)) (acks_of w.receiver) inv.acks.acks) (same_ack codec session w (came_call w e) ack (own_ack w e g legal inv has), tt);
          named = each_append (λ a. Each (λ h. IsHeldOrPassed codec session v.receiver h.0) a.held) (acks_of w.receiver) (ack ∷ []) (each_map (λ a. Each (λ h. IsHeldOrPassed codec session w.receiver h.0) a.held) (λ a. Each (λ h. IsHeldOrPassed codec session v.receiver h.0) a.held) (λ a each. each_map (λ h. IsHeldOrPassed codec session w.receiver h.0) (λ h. IsHeldOrPassed codec session v.receiver h.0) (λ h was. passed_later w e h.0 was) a.held each) (acks_of w.receiver) inv.acks.named) (new, tt);
          acked = acked_later codec session w (came_call w e) inv;
        };
      }
    where
      stays : (n : ℕ) → has_all (fragments_of n (taken w.receiver)) ≡ true → has_all (fragments_of n (with_fragment e (taken w.receiver))) ≡ true
      stays n all =
          let sent : IsSent codec session (pictures w.sender) (choices w.sender) n = whole_sent codec session w n g inv.receiver.parts all in
          whole_stays e n (taken w.receiver) (λ own. all_stay _ _ sent.made.bytes e (fragments_of n (taken w.receiver)) (parts_say codec session w n sent (taken w.receiver) g inv.receiver.parts) (says_of codec session w n sent e g has own) all) all

  bytes_kept : (w : WorldPast S) (bytes : List ℕ) → Given codec session w → NamesDifferIn codec w → IsLegalWorld codec session w → Invariant codec session w → Has (datagrams w.sender) bytes → Invariant codec session (delivered codec w bytes)
  bytes_kept w bytes g names legal inv has =
      let thread : datagrams w.sender ≡ map fragment_bytes (fragments codec session w.sender) = (thread_of_legal codec session w.sender legal.sender).thread in
      let m : (e : FragmentFields) × Has (fragments codec session w.sender) e × (bytes ≡ fragment_bytes e) = has_mapped fragment_bytes (fragments codec session w.sender) bytes (subst (λ xs. Has xs bytes) thread has) in
      let read : parsed bytes ≡ Ok (FragmentMessage m.0) = ap parsed m.2 ∙ came_text codec session (pictures w.sender) (choices w.sender) g m.0 (part_of codec session (pictures w.sender) (choices w.sender) g m.0 m.1) in
      subst (λ c. Invariant codec session (receives codec session w (Deliver c w.moment (deliver_answer codec w.receiver c w.moment)))) (sym read)
      (subst (λ a. Invariant codec session (receives codec session w (Deliver (Ok (FragmentMessage m.0)) w.moment a))) (sym (taken_answer w m.0 g inv m.1)) (part_kept w m.0 g names legal inv m.1))

  delivers_kept : (w : WorldPast S) (o : Option (List ℕ)) → ((bytes : List ℕ) → o ≡ Some bytes → Has (datagrams w.sender) bytes) → Given codec session w → NamesDifferIn codec w → IsLegalWorld codec session w → Invariant codec session w → Invariant codec session (delivered_if_sent codec w o)
  delivers_kept w None has g names legal inv = inv
  delivers_kept w (Some bytes) has g names legal inv = bytes_kept w bytes g names legal inv (has bytes refl)

  pub down_kept : (w : WorldPast S) (which : ℕ) → Given codec session w → NamesDifferIn codec w → IsLegalWorld codec session w → Invariant codec session w → Invariant codec session (happens codec session w (Delivers which))
  down_kept w which g names legal inv = delivers_kept w (at_number (sent w) which) (λ bytes e. member_has (sent w) which bytes e) g names legal inv
    where
      member_has : (xs : List (List ℕ)) (k : ℕ) (x : List ℕ) → at_number xs k ≡ Some x → Has xs x
      member_has xs zero x e = absurd (cc)
      member_has xs (suc k) x e = got_has xs k x e
