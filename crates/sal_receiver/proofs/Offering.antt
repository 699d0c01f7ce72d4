-- The frames that aren't decided, after a fragment that is taken.
use Rattle.std.proofs.Common.{◌≡◌, ℕ, ◌<◌, ◌≤◌, max, Bool, true, false, cond, ◌&&◌, List, ◌∷◌, Option, Some, None, Ok, is_some, length, refl, ap, sym, ◌∙◌, subst, arith, leb, eqb}
use Rattle.std.proofs.lemmas.Bool.{eqb-true, eq-eqb, le-ltb, lt-ltb, false_from_ne_true}
use Rattle.std.specs.Option.{option_map}
use Rattle.sal_codec.specs.Coding.{Coding}
use Rattle.sal_wire.specs.declared.datagram.Ack.{Ack}
use Rattle.sal_wire.specs.Fields.{FragmentFields}
use Rattle.sal_wire.specs.Message.{FragmentMessage}
use Rattle.sal_wire.specs.Layout.{IsFragment, IsWireName, name_bytes}
use Rattle.sal_reasm.specs.declared.answers.Offered.TheVariants.{Stale, Repeat, Complete, Kept}
use Rattle.sal_reasm.specs.Complete.{floor_of, fragments_of, data_at, is_complete, has_all, frame_bytes}
use Rattle.sal_reasm.specs.Offer.{offer_answer, clash_with_fragments}
use Rattle.sal_reasm.specs.Stands.{AreNamed}
use Rattle.sal_chain.specs.Held.{not_below}
use Rattle.sal_receiver.specs.declared.answers.Delivered.TheVariants.{Taken}
use Rattle.sal_receiver.specs.declared.pending_frame.PendingFrame.{PendingFrame}
use Rattle.sal_receiver.specs.Past.{ReceiverCall, Deliver, taken, floor}
use Rattle.sal_receiver.specs.Held.{held, state_among}
use Rattle.sal_receiver.specs.Ready.{source_in, target_in, ready_source, is_out, is_decided}
use Rattle.sal_receiver.specs.Promises.{IsLegalReceiver}
use Rattle.sal_receiver.specs.Pending.{at, frame_inserted, left_from, Rises}
use Rattle.sal_receiver.specs.Machine.{pending, pending_as, stage_of, new_stage, new_pending}
use Rattle.sal_receiver.proofs.FrameLemmas.{if_left, at_left, at_put, rises_left, rises_put}
use Rattle.sal_receiver.proofs.PartsLemmas.{IsSame, same_again, index_there}
use Rattle.sal_receiver.proofs.Holding.{held_raised, held_stale}
use Rattle.sal_receiver.proofs.Lasting.{quiet, left_same, left_next, new_next, pending_equal}
use Rattle.sal_receiver.proofs.Was.{out_ready, decided_ready, ready_whole}

same_parts : (b : Bool) (e : FragmentFields) (parts : List FragmentFields) → (b ≡ true → IsSame (e ∷ parts) parts) → IsSame (cond b (e ∷ parts) parts) parts
same_parts true e parts h = h refl
same_parts false e parts h = record { source = refl; target = refl; all = refl; bytes = refl }

none_of : {X : Type 0} (o : Option X) → is_some o ≡ false → o ≡ None
none_of None h = refl
none_of (Some x) h = absurd (cc)

not_both : (b : Bool) → b ≡ true → b ≡ false → ⊥
not_both b h e = absurd (let q : true ≡ false = sym h ∙ e in cc)

none_pending : {S : Type 0} (b all : Bool) (n : ℕ) (source target bytes : List ℕ) → all ≡ false → option_map (pending_as {S = S} n source target) (stage_of false false None (b && all) bytes) ≡ None
none_pending b true n source target bytes h = absurd (cc)
none_pending true false n source target bytes h = refl
none_pending false false n source target bytes h = refl

sent_long : (n : List ℕ) → IsWireName n → length n ≡ 16
unfolding name_bytes
sent_long n h = ap length h

own_step : (b : Bool) (e : FragmentFields) (parts : List FragmentFields) → b ≡ true → cond b (e ∷ parts) parts ≡ e ∷ parts
own_step true e parts h = refl
own_step false e parts h = absurd (cc)

own_parts : (e : FragmentFields) (es : List FragmentFields) → fragments_of e.number (e ∷ es) ≡ e ∷ fragments_of e.number es
own_parts e es = own_step (eqb e.number e.number) e (fragments_of e.number es) (eq-eqb e.number e.number refl)

pub offer_low : (e : FragmentFields) (es : List FragmentFields) → floor_of es ≤ e.number → clash_with_fragments (fragments_of e.number es) e ≡ None → offer_answer es e ≡ cond (is_some (data_at (fragments_of e.number es) e.index)) Repeat (cond (is_complete (e ∷ es) e.number) (Complete (frame_bytes (e ∷ es) e.number)) Kept)
offer_low e es low like = rw (le-ltb e.number (floor_of es) low, like) refl

pub offer_stale : (e : FragmentFields) (es : List FragmentFields) → e.number < floor_of es → offer_answer es e ≡ Stale
offer_stale e es low = rw (lt-ltb e.number (floor_of es) low) refl

module _ {S : Type 0} (codec : Coding S) where
  module _ (past : List (ReceiverCall S)) (e : FragmentFields) (moment : ℕ) (ack : Ack) (fs : List (PendingFrame S)) (legal : IsLegalReceiver codec past) (is : IsFragment e) (order : Rises 0 fs) (frames : (n : ℕ) → at n fs ≡ pending codec past n) where
    abbrev call : ReceiverCall S
    call = Deliver (Ok (FragmentMessage e)) moment (Taken ack)

    -- the floor after it
    abbrev high : ℕ
    high = max e.floor (floor past)

    pub taken_low : floor past ≤ e.number → taken (call ∷ past) ≡ e ∷ taken past
    taken_low low = rw (le-ltb e.number (floor past) low) refl

    pub taken_stale : e.number < floor past → taken (call ∷ past) ≡ taken past
    taken_stale low = rw (lt-ltb e.number (floor past) low) refl

    left_at : (n : ℕ) → at n (left_from high fs) ≡ if_left high (pending codec past n)
    left_at n = at_left 0 high n fs order ∙ ap (λ o. if_left high o) (frames n)

    -- below the floor nothing changes
    pub stale_frames : (n : ℕ) → e.number < floor past → at n (left_from high fs) ≡ pending codec (call ∷ past) n
    stale_frames n low =
        let same : high ≡ floor past = (let a = is.floor_below in omega arith) in
        left_at n ∙ (ap (λ k. if_left k (pending codec past n)) same ∙ (sym (left_same codec past n) ∙ sym (quiet codec call past n (taken_stale low) (held_stale codec past e moment ack low) refl refl)))

    same_frames : (n : ℕ) → floor past ≤ e.number → IsSame (fragments_of n (e ∷ taken past)) (fragments_of n (taken past)) → at n (left_from high fs) ≡ pending codec (call ∷ past) n
    same_frames n low same =
        left_at n ∙ sym (left_next codec call past e n (taken_low low) (held_raised codec past e moment ack low) refl refl same)

    -- what was there says nothing new
    pub repeat_frames : (n : ℕ) → floor past ≤ e.number → AreNamed (fragments_of e.number (taken past)) → clash_with_fragments (fragments_of e.number (taken past)) e ≡ None → is_some (data_at (fragments_of e.number (taken past)) e.index) ≡ true → at n (left_from high fs) ≡ pending codec (call ∷ past) n
    repeat_frames n low named like there =
        same_frames n low
        (same_parts (eqb e.number n) e (fragments_of n (taken past)) (λ (q : eqb e.number n ≡ true).
        subst (λ (m : ℕ). IsSame (e ∷ fragments_of m (taken past)) (fragments_of m (taken past))) (eqb-true _ _ q)
        (same_again e (fragments_of e.number (taken past)) named (sent_long e.source is.source) (sent_long e.target is.target) like there)))

    other_frames : (n : ℕ) → floor past ≤ e.number → eqb e.number n ≡ false → at n (left_from high fs) ≡ pending codec (call ∷ past) n
    other_frames n low other = same_frames n low (same_parts (eqb e.number n) e (fragments_of n (taken past)) (λ (q : eqb e.number n ≡ true). absurd (not_both (eqb e.number n) q other)))

    -- a frame of which an index was missing is new
    module _ (low : floor past ≤ e.number) (like : clash_with_fragments (fragments_of e.number (taken past)) e ≡ None) (missing : is_some (data_at (fragments_of e.number (taken past)) e.index) ≡ false) where
      not_all : has_all (fragments_of e.number (taken past)) ≡ false
      not_all = false_from_ne_true (has_all (fragments_of e.number (taken past))) (λ q. not_both _ (index_there e (fragments_of e.number (taken past)) like is.index q) missing)

      not_ready : is_some (ready_source codec past e.number) ≡ false
      not_ready = false_from_ne_true (is_some (ready_source codec past e.number)) (λ q. not_both _ (ready_whole codec past e.number legal q) not_all)

      not_out : is_out past e.number ≡ false
      not_out = false_from_ne_true (is_out past e.number) (λ q. not_both _ (out_ready codec past e.number legal q) not_ready)

      not_decided : is_decided past e.number ≡ false
      not_decided = false_from_ne_true (is_decided past e.number) (λ q. not_both _ (decided_ready codec past e.number legal q) not_ready)

      not_pending : pending codec past e.number ≡ None
      not_pending =
          pending_equal codec (is_out past e.number) false (is_decided past e.number) false (ready_source codec past e.number) None (taken past) (taken past) e.number not_out not_decided (none_of (ready_source codec past e.number) not_ready) refl
          ∙ none_pending (leb (floor past) e.number) (has_all (fragments_of e.number (taken past))) e.number (source_in (fragments_of e.number (taken past))) (target_in (fragments_of e.number (taken past))) (frame_bytes (taken past) e.number) not_all

      free : at e.number (left_from high fs) ≡ None
      free = left_at e.number ∙ ap (λ o. if_left high o) not_pending

      abbrev found : Option S
      found = state_among codec.initial e.source (not_below high (held codec past))

      own : pending codec (call ∷ past) e.number ≡ cond (is_complete (e ∷ taken past) e.number) (Some (new_pending e found (frame_bytes (e ∷ taken past) e.number))) None
      own =
          new_next codec call past e e.number (taken_low low) (held_raised codec past e moment ack low) not_out not_decided (none_of (ready_source codec past e.number) not_ready)
          ∙ ap (λ ps. cond (is_complete (e ∷ taken past) e.number) (Some (pending_as e.number (source_in ps) (target_in ps) (new_stage (state_among codec.initial (source_in ps) (not_below high (held codec past))) (frame_bytes (e ∷ taken past) e.number)))) None) (own_parts e (taken past))

      complete_step : (b : Bool) (n : ℕ) → eqb e.number n ≡ b → is_complete (e ∷ taken past) e.number ≡ true → cond b (Some (new_pending e found (frame_bytes (e ∷ taken past) e.number))) (at n (left_from high fs)) ≡ pending codec (call ∷ past) n
      complete_step true n q whole =
          subst (λ (m : ℕ). Some (new_pending e found (frame_bytes (e ∷ taken past) e.number)) ≡ pending codec (call ∷ past) m) (eqb-true _ _ q)
          (sym (own ∙ ap (λ b. cond b (Some (new_pending e found (frame_bytes (e ∷ taken past) e.number))) None) whole))
      complete_step false n q whole = other_frames n low q

      -- complete now
      pub complete_frames : (n : ℕ) → is_complete (e ∷ taken past) e.number ≡ true → at n (frame_inserted (new_pending e found (frame_bytes (e ∷ taken past) e.number)) (left_from high fs)) ≡ pending codec (call ∷ past) n
      complete_frames n whole =
          at_put n (new_pending e found (frame_bytes (e ∷ taken past) e.number)) (left_from high fs) free ∙ complete_step (eqb e.number n) n refl whole

      pub complete_order : Rises 0 (frame_inserted (new_pending e found (frame_bytes (e ∷ taken past) e.number)) (left_from high fs))
      complete_order = rises_put 0 (new_pending e found (frame_bytes (e ∷ taken past) e.number)) (left_from high fs) (rises_left 0 high fs order) (omega arith) free

      kept_step : (b : Bool) (n : ℕ) → eqb e.number n ≡ b → is_complete (e ∷ taken past) e.number ≡ false → at n (left_from high fs) ≡ pending codec (call ∷ past) n
      kept_step true n q part =
          subst (λ (m : ℕ). at m (left_from high fs) ≡ pending codec (call ∷ past) m) (eqb-true _ _ q)
          (free ∙ sym (own ∙ ap (λ b. cond b (Some (new_pending e found (frame_bytes (e ∷ taken past) e.number))) None) part))
      kept_step false n q part = other_frames n low q

      -- or not yet
      pub kept_frames : (n : ℕ) → is_complete (e ∷ taken past) e.number ≡ false → at n (left_from high fs) ≡ pending codec (call ∷ past) n
      kept_frames n part = kept_step (eqb e.number n) n refl part
