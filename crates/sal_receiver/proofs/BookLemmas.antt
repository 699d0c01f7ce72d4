-- What a receiver keeps, with one part changed.
use Rattle.std.proofs.Common.{◌≡◌, ℕ, List, ap, subst, ◌∙◌}
use Rattle.sal_base.specs.declared.name.Name.{Name}
use Rattle.sal_chain.specs.Held.{inserted}
use Rattle.sal_receiver.specs.Judged.{after_hold}
use Rattle.sal_receiver.specs.Pending.{without, fed}
use Rattle.sal_reasm.specs.SlotTable.{SlotTable}
use Rattle.sal_chain.specs.StateTable.{StateTable}
use Rattle.sal_receiver.specs.declared.session_state.SessionState.{SessionState}
use Rattle.sal_receiver.specs.declared.pending_frame.PendingFrame.{PendingFrame}
use Rattle.sal_receiver.specs.Machine.{ReceiverState}

abbrev pub book : {S : Type 0} → SessionState → SlotTable → StateTable S → List (PendingFrame S) → ℕ → ReceiverState S
book known slots store frames last = record { known = known; slots = slots; store = store; frames = frames; last = last }

module _ {S : Type 0} where
  pub with_frames : (b : ReceiverState S) (known : SessionState) (slots : SlotTable) (store : StateTable S) (fs new : List (PendingFrame S)) (last : ℕ) (f : List (PendingFrame S) → List (PendingFrame S)) → book known slots store fs last ≡ b → new ≡ f fs → ◌≡◌ {A = ReceiverState S} (book known slots store new last) (record b { frames = f b.frames })
  with_frames b known slots store fs new last f view e =
      subst (λ (x : ReceiverState S). ◌≡◌ {A = ReceiverState S} (book known slots store new last) (record x { frames = f x.frames })) view (ap (λ (xs : List (PendingFrame S)). book known slots store xs last) e)

  pub held_book : (b : ReceiverState S) (known : SessionState) (slots : SlotTable) (store new_store : StateTable S) (fs new : List (PendingFrame S)) (last n : ℕ) (name : Name) (state : S) → book known slots store fs last ≡ b → new_store ≡ record { floor = store.floor; kept = inserted (record { number = n; name = name; state = state }) store.kept } → new ≡ without n (fed name.0 state fs) → ◌≡◌ {A = ReceiverState S} (book known slots new_store new last) (after_hold n name state b)
  held_book b known slots store new_store fs new last n name state view a e =
      subst (λ (x : ReceiverState S). ◌≡◌ {A = ReceiverState S} (book known slots new_store new last) (after_hold n name state x)) view
      (ap (λ (s : StateTable S). book known slots s new last) a ∙ ap (λ (xs : List (PendingFrame S)). book known slots (record { floor = store.floor; kept = inserted (record { number = n; name = name; state = state }) store.kept }) xs last) e)
