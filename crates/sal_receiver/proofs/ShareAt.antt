-- The share that was found is one of the state of that name.
use Rattle.std.proofs.Common.{◌≡◌, ℕ, ◌+◌, Bool, true, false, cond, List, map, Option, Some, None, Result, Ok, Err, IfOk, ap, sym, ◌∙◌}
use Rattle.std.specs.List.{find}
use Rattle.std.specs.Option.{option_map}
use Rattle.sal_base.specs.Names.{same}
use Rattle.sal_base.specs.declared.name.Name.{Name}
use Rattle.sal_chain.specs.declared.stored_state.StoredState.{StoredState}
use Rattle.sal_chain.specs.Held.{not_below, with_name, with_number, number_and_name}
use Rattle.sal_chain.specs.StateTable.{StateTable, IsStateTable}
use Rattle.sal_receiver.specs.Held.{state_among, zero_name}
use Rattle.sal_receiver.proofs.LabelLemmas.{is_label, found_number, found_none}

module _ {S : Type 0} where
  among_step : (b : Bool) (initial : S) (o p : Option (StoredState S)) → b ≡ false → o ≡ p → option_map (λ (k : StoredState S). k.state) o ≡ cond b (Some initial) (option_map (λ (k : StoredState S). k.state) p)
  among_step true initial o p e h = absurd (cc)
  among_step false initial o p e h = ap (λ (x : Option (StoredState S)). option_map (λ (k : StoredState S). k.state) x) h

  pub found_among : (floor n : ℕ) (name : List ℕ) (initial : S) (store : StateTable S) (labels : List (ℕ × Name)) (r : Option ℕ) → same name zero_name ≡ false → IsStateTable store.floor store.kept → labels ≡ map number_and_name store.kept → r ≡ Some n → r ≡ option_map (λ (l : ℕ × Name). l.0) (find (is_label floor name) labels)
      → option_map (λ (k : StoredState S). k.state) (with_number n store.kept) ≡ state_among initial name (not_below floor store.kept)
  found_among floor n name initial store labels r zero is same_labels some found =
      among_step (same name zero_name) initial (with_number n store.kept) (with_name name (not_below floor store.kept)) zero
      (found_number floor name store.floor (store.floor + 16) n store.kept is (sym some ∙ (found ∙ ap (λ (ls : List (ℕ × Name)). option_map (λ (l : ℕ × Name). l.0) (find (is_label floor name) ls)) same_labels)))

  pub none_among : (floor : ℕ) (name : List ℕ) (initial : S) (store : StateTable S) (labels : List (ℕ × Name)) (r : Option ℕ) → same name zero_name ≡ false → labels ≡ map number_and_name store.kept → r ≡ None → r ≡ option_map (λ (l : ℕ × Name). l.0) (find (is_label floor name) labels)
      → None ≡ state_among initial name (not_below floor store.kept)
  none_among floor name initial store labels r zero same_labels none found =
      among_step (same name zero_name) initial None (with_name name (not_below floor store.kept)) zero
      (sym (found_none floor name store.kept (sym none ∙ (found ∙ ap (λ (ls : List (ℕ × Name)). option_map (λ (l : ℕ × Name). l.0) (find (is_label floor name) ls)) same_labels))))

  pub share_ok : {A B : Type 0} (r : Result A B) (f : A → Option S) (o p : Option S) → IfOk r (λ x. f x ≡ o) → o ≡ p → IfOk r (λ x. f x ≡ p)
  share_ok (Ok x) f o p h e = h ∙ e
  share_ok (Err y) f o p h e = tt
