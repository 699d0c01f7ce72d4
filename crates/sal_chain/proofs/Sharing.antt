-- The words on what is kept speak of shares as of what they share.
use Rattle.std.proofs.Common.{◌≡◌, ℕ, Bool, true, false, cond, List, [], ◌∷◌, map, refl, ap, ◌∙◌, ltb, leb, eqb}
use Rattle.std.specs.Option.{option_map}
use Rattle.std.specs.declared.option.Option.{Option}
use Rattle.std.specs.declared.option.Option.TheVariants.{Some}
use Rattle.std.specs.declared.sync.Arc.{Arc}
use Rattle.sal_base.specs.Names.{same}
use Rattle.sal_base.specs.declared.name.Name.{Name}
use Rattle.sal_chain.specs.declared.stored_state.StoredState.{StoredState}
use Rattle.sal_chain.specs.Held.{inserted, not_below, with_name, with_number, number_and_name}
use Rattle.sal_chain.specs.Shares.{unshared, number_and_state, name_and_state}
use Rattle.sal_chain.specs.StateTable.{StateTable}

module _ {S Z : Type 0} where
  step_placed : (b : Bool) (k x : StoredState (Arc S Z)) (xs ys : List (StoredState (Arc S Z))) (zs : List (StoredState S)) → map unshared ys ≡ zs → map unshared (cond b (k ∷ x ∷ xs) (x ∷ ys)) ≡ cond b (unshared k ∷ unshared x ∷ map unshared xs) (unshared x ∷ zs)
  step_placed true k x xs ys zs h = refl
  step_placed false k x xs ys zs h = ap (λ (r : List (StoredState S)). unshared x ∷ r) h

  pub placed_seen : (k : StoredState (Arc S Z)) (xs : List (StoredState (Arc S Z))) → map unshared (inserted k xs) ≡ inserted (unshared k) (map unshared xs)
  placed_seen k [] = refl
  placed_seen k (x ∷ xs) = step_placed (ltb k.number x.number) k x xs (inserted k xs) (inserted (unshared k) (map unshared xs)) (placed_seen k xs)

  step_from : (b : Bool) (x : StoredState (Arc S Z)) (ys : List (StoredState (Arc S Z))) (zs : List (StoredState S)) → map unshared ys ≡ zs → map unshared (cond b (x ∷ ys) ys) ≡ cond b (unshared x ∷ zs) zs
  step_from true x ys zs h = ap (λ (r : List (StoredState S)). unshared x ∷ r) h
  step_from false x ys zs h = h

  pub from_seen : (floor : ℕ) (xs : List (StoredState (Arc S Z))) → map unshared (not_below floor xs) ≡ not_below floor (map unshared xs)
  from_seen floor [] = refl
  from_seen floor (x ∷ xs) = step_from (leb floor x.number) x (not_below floor xs) (not_below floor (map unshared xs)) (from_seen floor xs)

  step_found : (b : Bool) (x : StoredState (Arc S Z)) (o : Option (StoredState (Arc S Z))) (p : Option (StoredState S)) → option_map unshared o ≡ p → option_map unshared (cond b (Some x) o) ≡ cond b (Some (unshared x)) p
  step_found true x o p h = refl
  step_found false x o p h = h

  pub named_seen : (name : List ℕ) (xs : List (StoredState (Arc S Z))) → option_map unshared (with_name name xs) ≡ with_name name (map unshared xs)
  named_seen name [] = refl
  named_seen name (x ∷ xs) = step_found (same x.name.0 name) x (with_name name xs) (with_name name (map unshared xs)) (named_seen name xs)

  pub numbered_seen : (n : ℕ) (xs : List (StoredState (Arc S Z))) → option_map unshared (with_number n xs) ≡ with_number n (map unshared xs)
  numbered_seen n [] = refl
  numbered_seen n (x ∷ xs) = step_found (eqb x.number n) x (with_number n xs) (with_number n (map unshared xs)) (numbered_seen n xs)

  pub labels_seen : (xs : List (StoredState (Arc S Z))) → map number_and_name xs ≡ map number_and_name (map unshared xs)
  labels_seen [] = refl
  labels_seen (x ∷ xs) = ap (λ (r : List (ℕ × Name)). number_and_name x ∷ r) (labels_seen xs)

  -- what is found among the shares is what is found in the shelf
  pub found_named : (name : List ℕ) (items : List (StoredState (Arc S Z))) (s : StateTable S) (floor : ℕ) (o : Option (StoredState (Arc S Z))) → ◌≡◌ {A = StateTable S} (record { floor = floor; kept = map unshared items }) s → o ≡ with_name name items → option_map number_and_state (option_map unshared o) ≡ option_map number_and_state (with_name name s.kept)
  found_named name items s floor o view e = ap (λ (p : Option (StoredState S)). option_map number_and_state p) (ap (λ (p : Option (StoredState (Arc S Z))). option_map unshared p) e ∙ (named_seen name items ∙ ap (λ (v : StateTable S). with_name name v.kept) view))

  pub found_numbered : (n : ℕ) (items : List (StoredState (Arc S Z))) (s : StateTable S) (floor : ℕ) (o : Option (StoredState (Arc S Z))) → ◌≡◌ {A = StateTable S} (record { floor = floor; kept = map unshared items }) s → o ≡ with_number n items → option_map name_and_state (option_map unshared o) ≡ option_map name_and_state (with_number n s.kept)
  found_numbered n items s floor o view e = ap (λ (p : Option (StoredState S)). option_map name_and_state p) (ap (λ (p : Option (StoredState (Arc S Z))). option_map unshared p) e ∙ (numbered_seen n items ∙ ap (λ (v : StateTable S). with_number n v.kept) view))
