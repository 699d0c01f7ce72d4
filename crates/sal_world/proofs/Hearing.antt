-- An acknowledgement that comes back keeps the invariant.
use Rattle.std.proofs.Common.{◌≡◌, ℕ, zero, suc, ◌≤◌, Bool, true, false, cond, List, [], ◌∷◌, length, map, filter, Option, Some, None, Ok, refl, ap, sym, subst, arith, eqb, ltb, leb}
use Rattle.std.proofs.lemmas.Bool.{eq-eqb, le-ltb}
use Rattle.std.proofs.lemmas.List.{length-map}
use Rattle.std.specs.List.{filter_map}
use Rattle.sal_base.specs.Lists.{Has, Each}
use Rattle.sal_base.specs.Names.{same}
use Rattle.sal_base.specs.declared.name.Name.{Name}
use Rattle.sal_codec.specs.Coding.{Coding}
use Rattle.sal_wire.specs.declared.datagram.Ack.{Ack}
use Rattle.sal_wire.specs.Message.{AckMessage}
use Rattle.sal_wire.specs.Parsing.{parsed}
use Rattle.sal_wire.specs.Layout.{fragment_bytes, ack_bytes}
use Rattle.sal_wire.proofs.AckAgain.{report_again}
use Rattle.sal_sender.specs.declared.answers.Ignore.{Ignore}
use Rattle.sal_sender.specs.declared.answers.Ignore.TheVariants.{Old}
use Rattle.sal_sender.specs.declared.answers.HeardAck.{HeardAck}
use Rattle.sal_sender.specs.declared.answers.HeardAck.TheVariants.{Heard, Ignored}
use Rattle.sal_sender.specs.Past.{SenderCall, Hear, choices, pictures, floor, tip, sent}
use Rattle.sal_chain.specs.Held.{name_in}
use Rattle.sal_sender.specs.Chain.{state_at}
use Rattle.sal_sender.specs.OneThread.{Session, one_thread}
use Rattle.sal_sender.specs.Acks.{acknowledged, named_from, heard}
use Rattle.sal_sender.specs.Choosing.{first_in}
use Rattle.sal_sender.specs.Answers.{unsent_or_misnamed, first_wrong, newly_named, fresh, unless_wrong, ack_answer, heard_answer}
use Rattle.sal_sender.proofs.Thread.{thread_of_legal, has_filter}
use Rattle.sal_sender.proofs.Sound.{sound}
use Rattle.sal_world.specs.World.{WorldPast, Hears, at_number, acks, acks_of, heard_if_sent, heard_back, happens}
use Rattle.sal_world.specs.Promises.{IsHeardOrOld}
use Rattle.sal_world.specs.Invariant.{Invariant, NamesItsState, IsAckOfSent, WasAcked}
use Rattle.sal_world.proofs.ListLemmas.{got_has, has_mapped, each_append, each_has, each_of}
use Rattle.sal_world.proofs.FromInvariant.{same_refl}
use Rattle.sal_world.proofs.Legal.{IsLegalWorld, came_up}
use Rattle.sal_world.proofs.Growing.{grown}
use Rattle.sal_world.proofs.Sending.{starts, same_sizes}

old_good : (later : Bool) → IsHeardOrOld (cond later (Heard []) (Ignored Old))
old_good true = tt
old_good false = tt

fresh_good : (before serial : ℕ) (new : List ℕ) → IsHeardOrOld (fresh before serial new)
fresh_good before serial [] = old_good (ltb before serial)
fresh_good before serial (n ∷ more) = tt

named_good : (why : Option Ignore) (answer : HeardAck) → why ≡ None → IsHeardOrOld answer → IsHeardOrOld (unless_wrong why answer)
named_good None answer e good = good
named_good (Some why) answer e good = absurd (cc)

none_wrong : (f : ℕ × Name → Option Ignore) (p : ℕ × Name → Bool) (held : List (ℕ × Name)) → Each (λ h. f h ≡ None) held → first_in (filter_map f (filter p held)) ≡ None
none_wrong f p [] each = refl
none_wrong f p (h ∷ held) each = step (p h) (f h) each.0 (none_wrong f p held each.1)
  where
    step : (b : Bool) (o : Option Ignore) → o ≡ None → first_in (filter_map f (filter p held)) ≡ None → first_in (filter_map f (cond b (h ∷ filter p held) (filter p held))) ≡ None
    step true o e more = rw each.0 more
    step false o e more = more

module _ {S : Type 0} (codec : Coding S) (session : Session) where
  right_name : (w : WorldPast S) (h : ℕ × Name) → NamesItsState codec session w.sender h → unsent_or_misnamed codec w.sender h ≡ None
  right_name w h is =
      let e : same (name_in codec (state_at codec w.sender h.0)) h.1.0 ≡ true = subst (λ x. same (name_in codec (state_at codec w.sender h.0)) x ≡ true) (sym is.1) (same_refl (name_in codec (state_at codec w.sender h.0))) in
      rw (le-ltb (tip w.sender) h.0 is.0, e) refl

  -- an acknowledgement of this session that says what was sent is heard, or is old
  ack_good : (w : WorldPast S) (ack : Ack) → IsAckOfSent codec session w.sender ack → length (one_thread codec session (pictures w.sender) (choices w.sender)) ≤ sent w.sender → IsHeardOrOld (ack_answer codec session w.sender ack)
  ack_good w ack own long =
      let a : eqb ack.session session.number ≡ true = eq-eqb _ _ own.own in
      let b : ltb (sent w.sender) ack.serial ≡ false = le-ltb _ _ (omega (arith, own.sent)) in
      let c : first_wrong codec w.sender ack ≡ None = none_wrong (unsent_or_misnamed codec w.sender) (λ h. leb (floor w.sender) h.0) ack.held (each_map_wrong w ack.held own.states) in
      rw (a, b) (named_good (first_wrong codec w.sender ack) (fresh (heard w.sender) ack.serial (newly_named w.sender ack)) c (fresh_good (heard w.sender) ack.serial (newly_named w.sender ack)))
    where
      each_map_wrong : (w : WorldPast S) (held : List (ℕ × Name)) → Each (NamesItsState codec session w.sender) held → Each (λ h. unsent_or_misnamed codec w.sender h ≡ None) held
      each_map_wrong w [] each = tt
      each_map_wrong w (h ∷ held) each = (right_name w h each.0, each_map_wrong w held each.1)

  named_has : (w : WorldPast S) (ack : Ack) (n : ℕ) → Has (acks_of w.receiver) ack → Has (named_from (floor w.sender) ack) n → WasAcked codec session w.receiver n
  named_has w ack n has h =
      let m = has_mapped (λ (held : ℕ × Name). held.0) ack.held n (has_filter (λ k. leb (floor w.sender) k) (map (λ (held : ℕ × Name). held.0) ack.held) n h) in
      (ack, has, m.0.1, subst (λ k. Has ack.held (k, m.0.1)) (sym m.2) m.1)

  named_acked : (w : WorldPast S) (ack : Ack) (moment : ℕ) (answer : HeardAck) → Has (acks_of w.receiver) ack → Each (WasAcked codec session w.receiver) (acknowledged w.sender) → Each (WasAcked codec session w.receiver) (acknowledged (Hear (Ok (AckMessage ack)) moment answer ∷ w.sender))
  named_acked w ack moment (Ignored why) has before = before
  named_acked w ack moment (Heard numbers) has before =
      each_append (WasAcked codec session w.receiver) (named_from (floor w.sender) ack) (acknowledged w.sender) (each_of (WasAcked codec session w.receiver) (named_from (floor w.sender) ack) (λ n h. named_has w ack n has h)) before

  sent_long : (w : WorldPast S) → IsLegalWorld codec session w → length (one_thread codec session (pictures w.sender) (choices w.sender)) ≤ sent w.sender
  sent_long w legal =
      let t : sent w.sender ≡ length (map fragment_bytes (one_thread codec session (pictures w.sender) (choices w.sender))) = ap (λ (xs : List (List ℕ)). length xs) (thread_of_legal codec session w.sender legal.sender).thread in
      omega (arith, t, length-map (one_thread codec session (pictures w.sender) (choices w.sender)) fragment_bytes)

  back_kept : (w : WorldPast S) (ack : Ack) → Has (acks_of w.receiver) ack → IsLegalWorld codec session w → Invariant codec session w → Invariant codec session (heard_back codec session w ack)
  back_kept w ack has legal inv =
      let own : IsAckOfSent codec session w.sender ack = each_has (IsAckOfSent codec session w.sender) (acks_of w.receiver) ack inv.acks.acks has in
      let read : parsed (ack_bytes ack) ≡ Ok (AckMessage ack) = report_again ack own.fits own.is in
      let call : SenderCall = Hear (parsed (ack_bytes ack)) w.moment (heard_answer codec session w.sender (parsed (ack_bytes ack))) in
      let later : IsLegalWorld codec session (heard_back codec session w ack) = came_up codec session w (Some ack) legal in
      grown codec session w (call ∷ w.sender) (starts codec session w [] legal.sender) (sound codec session (call ∷ w.sender) later.sender) (same_sizes codec session w inv)
      (subst (λ c. IsHeardOrOld (heard_answer codec session w.sender c)) (sym read) (ack_good w ack own (sent_long w legal)), inv.acks.heard)
      (subst (λ c. Each (WasAcked codec session w.receiver) (acknowledged (Hear c w.moment (heard_answer codec session w.sender c) ∷ w.sender))) (sym read) (named_acked w ack w.moment (ack_answer codec session w.sender ack) has inv.acks.acked))
      inv

  hears_kept : (w : WorldPast S) (o : Option Ack) → ((ack : Ack) → o ≡ Some ack → Has (acks_of w.receiver) ack) → IsLegalWorld codec session w → Invariant codec session w → Invariant codec session (heard_if_sent codec session w o)
  hears_kept w None has legal inv = inv
  hears_kept w (Some ack) has legal inv = back_kept w ack (has ack refl) legal inv

  pub up_kept : (w : WorldPast S) (which : ℕ) → IsLegalWorld codec session w → Invariant codec session w → Invariant codec session (happens codec session w (Hears which))
  up_kept w which legal inv = hears_kept w (at_number (acks w) which) (λ ack e. member_has (acks w) which ack e) legal inv
    where
      member_has : (xs : List Ack) (k : ℕ) (x : Ack) → at_number xs k ≡ Some x → Has xs x
      member_has xs zero x e = absurd (cc)
      member_has xs (suc k) x e = got_has xs k x e
