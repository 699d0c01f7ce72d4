-- What entering a fragment left, from what each part did.
use Rattle.std.proofs.Common.{◌≡◌, ℕ, max, Bool, true, false, cond, List, ◌∷◌, map, Option, Some, None, Ok, refl, ap, ◌∙◌, subst, ltb}
use Rattle.std.specs.Option.{option_map}
use Rattle.std.specs.Arc.{arc_value}
use Rattle.std.specs.declared.sync.Arc.{Arc}
use Rattle.sal_wire.specs.Fields.{FragmentFields}
use Rattle.sal_reasm.specs.declared.answers.Offered.{Offered}
use Rattle.sal_reasm.specs.declared.answers.Offered.TheVariants.{Stale, Clash, Repeat, Complete, Kept}
use Rattle.sal_reasm.specs.declared.answers.ClashField.{ClashField}
use Rattle.sal_reasm.specs.Complete.{floor_of, with_fragment}
use Rattle.sal_reasm.specs.Offer.{Difference, offer_answer, clash_with_taken, unless_clash}
use Rattle.sal_reasm.specs.SlotTable.{SlotTable}
use Rattle.sal_reasm.specs.Stands.{SlotsStand}
use Rattle.sal_reasm.specs.Offer.{taken_after}
use Rattle.sal_chain.specs.StateTable.{StateTable, floor_raised}
use Rattle.sal_chain.specs.Held.{not_below}
use Rattle.sal_receiver.specs.declared.session_state.SessionState.{SessionState}
use Rattle.sal_receiver.specs.declared.pending_frame.PendingFrame.{PendingFrame}
use Rattle.sal_receiver.specs.Held.{state_among}
use Rattle.sal_receiver.specs.Known.{known_after}
use Rattle.sal_receiver.specs.Pending.{frame_unshared, left_from}
use Rattle.sal_receiver.specs.Machine.{ReceiverState, IsEntered, entered}
use Rattle.sal_receiver.proofs.BookLemmas.{book}
use Rattle.sal_receiver.proofs.SeenLemmas.{left_seen}

-- an answer below the floor is stale, one at or above it isn't
stale_case : (b there whole : Bool) (bytes : List ℕ) (e : FragmentFields) (es : List FragmentFields) (o : Option Difference) → o ≡ None → Stale ≡ cond b Stale (unless_clash o (cond there Repeat (cond whole (Complete bytes) Kept))) → es ≡ cond b es (e ∷ es)
stale_case true there whole bytes e es o none h = refl
stale_case false true whole bytes e es None none h = absurd (cc)
stale_case false false true bytes e es None none h = absurd (cc)
stale_case false false false bytes e es None none h = absurd (cc)
stale_case false there whole bytes e es (Some d) none h = absurd (cc)

clash_case : (b there whole : Bool) (bytes : List ℕ) (field : ClashField) (kept new : ℕ) (o : Option Difference) → o ≡ None → Clash field kept new ≡ cond b Stale (unless_clash o (cond there Repeat (cond whole (Complete bytes) Kept))) → ⊥
clash_case true there whole bytes field kept new o none h = cc
clash_case false true whole bytes field kept new None none h = cc
clash_case false false true bytes field kept new None none h = cc
clash_case false false false bytes field kept new None none h = cc
clash_case false there whole bytes field kept new (Some d) none h = cc

taken_is : (o : Offered) (e : FragmentFields) (es : List FragmentFields) → o ≡ offer_answer es e → clash_with_taken es e ≡ None → taken_after (Ok o) e es ≡ with_fragment e es
taken_is Stale e es h none = stale_case (ltb e.number (floor_of es)) _ _ _ e es (clash_with_taken es e) none h
taken_is (Clash field kept new) e es h none = absurd (clash_case (ltb e.number (floor_of es)) _ _ _ field kept new (clash_with_taken es e) none h)
taken_is Repeat e es h none = refl
taken_is (Complete bytes) e es h none = refl
taken_is Kept e es h none = refl

module _ {S Z : Type 0} where
  pub entered_is : (initial first : S) (r : ReceiverState S) (known known' : SessionState) (slots slots' : SlotTable) (store store' : StateTable S) (items kept new : List (PendingFrame (Arc S Z))) (last moment floor high : ℕ) (e : FragmentFields) (taken : List FragmentFields) (o : Offered) (source : Option (Arc S Z)) → book known slots store (map frame_unshared items) last ≡ r
      → first ≡ initial → floor ≡ store.floor → high ≡ max floor e.floor → known' ≡ known_after e moment known → SlotsStand slots' (taken_after (Ok o) e taken) → o ≡ offer_answer taken e → clash_with_taken taken e ≡ None → store' ≡ floor_raised e.floor store → option_map arc_value source ≡ state_among first e.source (not_below high store.kept) → kept ≡ left_from high items → map frame_unshared new ≡ entered o e (option_map arc_value source) (map frame_unshared kept)
      → IsEntered initial r (book known' slots' store' (map frame_unshared new) last) e moment taken
  entered_is initial first r known known' slots slots' store store' items kept new last moment floor high e taken o source view is_first is_floor is_high is_line keeps is_answer none is_shelf is_source is_kept is_new =
      let up : high ≡ max store.floor e.floor = is_high ∙ ap (λ k. max k e.floor) is_floor in
      let found : option_map arc_value source ≡ state_among initial e.source (not_below (max store.floor e.floor) store.kept) =
      is_source ∙ (ap (λ s. state_among s e.source (not_below high store.kept)) is_first ∙ ap (λ k. state_among initial e.source (not_below k store.kept)) up) in
      let left : map frame_unshared kept ≡ left_from (max store.floor e.floor) (map frame_unshared items) =
      ap (λ xs. map frame_unshared xs) is_kept ∙ (left_seen high items ∙ ap (λ k. left_from k (map frame_unshared items)) up) in
      subst (λ (b : ReceiverState S). IsEntered initial b (book known' slots' store' (map frame_unshared new) last) e moment taken) view
      (record {
        known = is_line;
        slots = subst (λ (es : List FragmentFields). SlotsStand slots' es) (taken_is o e taken is_answer none) keeps;
        store = is_shelf;
        frames =
            is_new
            ∙ (ap (λ p. entered p e (option_map arc_value source) (map frame_unshared kept)) is_answer
            ∙ (ap (λ f. entered (offer_answer taken e) e f (map frame_unshared kept)) found
            ∙ ap (λ xs. entered (offer_answer taken e) e (state_among initial e.source (not_below (max store.floor e.floor) store.kept)) xs) left));
        last = refl;
      })
