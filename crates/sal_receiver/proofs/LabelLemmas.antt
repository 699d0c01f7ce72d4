-- The first number from a floor on that has a name.
use Rattle.std.proofs.Common.{◌≡◌, ℕ, suc, ◌≤◌, Bool, true, false, cond, ◌&&◌, List, [], ◌∷◌, map, Option, Some, None, refl, sym, ◌∙◌, subst, arith, leb, eqb}
use Rattle.std.proofs.lemmas.Bool.{ne_eqb, eq-eqb}
use Rattle.std.specs.List.{find}
use Rattle.std.specs.Option.{option_map}
use Rattle.sal_base.specs.Names.{same}
use Rattle.sal_base.specs.declared.name.Name.{Name}
use Rattle.sal_chain.specs.declared.stored_state.StoredState.{StoredState}
use Rattle.sal_chain.specs.Held.{not_below, with_name, with_number, number_and_name}
use Rattle.sal_chain.specs.StateTable.{Rises}

-- the test of a label
abbrev pub is_label : ℕ → List ℕ → ℕ × Name → Bool
is_label floor name l = leb floor l.0 && same l.1.0 name

module _ {T : Type 0} where
  -- the first of the name from the floor on
  abbrev pub chosen : ℕ → List ℕ → List (StoredState T) → Option (StoredState T)
  chosen floor name kept = find (λ k. leb floor k.number && same k.name.0 name) kept

  named_step : (low is : Bool) (name : List ℕ) (k : StoredState T) (xs : List (StoredState T)) (o : Option (StoredState T)) → same k.name.0 name ≡ is → with_name name xs ≡ o → with_name name (cond low (k ∷ xs) xs) ≡ cond (low && is) (Some k) o
  named_step true is name k xs o e h = rw (e, h) refl
  named_step false is name k xs o e h = h

  pub named_chosen : (floor : ℕ) (name : List ℕ) (kept : List (StoredState T)) → with_name name (not_below floor kept) ≡ chosen floor name kept
  named_chosen floor name [] = refl
  named_chosen floor name (k ∷ kept) = named_step (leb floor k.number) (same k.name.0 name) name k (not_below floor kept) (chosen floor name kept) refl (named_chosen floor name kept)

  label_step : (b : Bool) (k : StoredState T) (l : Option (ℕ × Name)) (o : Option (StoredState T)) → option_map (λ (l : ℕ × Name). l.0) l ≡ option_map (λ (k : StoredState T). k.number) o → option_map (λ (l : ℕ × Name). l.0) (cond b (Some (k.number, k.name)) l) ≡ option_map (λ (k : StoredState T). k.number) (cond b (Some k) o)
  label_step true k l o h = refl
  label_step false k l o h = h

  pub label_chosen : (floor : ℕ) (name : List ℕ) (kept : List (StoredState T)) → option_map (λ (l : ℕ × Name). l.0) (find (is_label floor name) (map number_and_name kept)) ≡ option_map (λ (k : StoredState T). k.number) (chosen floor name kept)
  label_chosen floor name [] = refl
  label_chosen floor name (k ∷ kept) = label_step (leb floor k.number && same k.name.0 name) k (find (is_label floor name) (map number_and_name kept)) (chosen floor name kept) (label_chosen floor name kept)

  -- what is chosen stands at least so high
  chosen_low_step : (b : Bool) (least : ℕ) (k x : StoredState T) (o : Option (StoredState T)) → least ≤ x.number → cond b (Some x) o ≡ Some k → (o ≡ Some k → least ≤ k.number) → least ≤ k.number
  chosen_low_step true least k x o low h more = let e : x ≡ k = cc in subst (λ (y : StoredState T). least ≤ y.number) e low
  chosen_low_step false least k x o low h more = more h

  chosen_low : (floor : ℕ) (name : List ℕ) (least above : ℕ) (k : StoredState T) (xs : List (StoredState T)) → Rises least above xs → chosen floor name xs ≡ Some k → least ≤ k.number
  chosen_low floor name least above k [] r h = absurd (cc)
  chosen_low floor name least above k (x ∷ xs) r h =
      chosen_low_step (leb floor x.number && same x.name.0 name) least k x (chosen floor name xs) r.0 h
      (λ (q : chosen floor name xs ≡ Some k). let low : suc x.number ≤ k.number = chosen_low floor name (suc x.number) above k xs r.2 q in let a : least ≤ x.number = r.0 in omega arith)

  number_step : (b : Bool) (k x : StoredState T) (xs : List (StoredState T)) (o : Option (StoredState T)) → cond b (Some x) o ≡ Some k → (o ≡ Some k → suc x.number ≤ k.number) → (o ≡ Some k → with_number k.number xs ≡ Some k) → cond (eqb x.number k.number) (Some x) (with_number k.number xs) ≡ Some k
  number_step true k x xs o h low more = let e : x ≡ k = cc in subst (λ (y : StoredState T). cond (eqb x.number y.number) (Some x) (with_number y.number xs) ≡ Some y) e (step (eqb x.number x.number) (eq-eqb x.number x.number refl))
    where
      step : (b : Bool) → b ≡ true → cond b (Some x) (with_number x.number xs) ≡ Some x
      step true e = refl
      step false e = absurd (cc)
  number_step false k x xs o h low more =
      let above : suc x.number ≤ k.number = low h in
      rw (ne_eqb x.number k.number (λ (q : x.number ≡ k.number). omega arith)) (more h)

  -- and is found by its number
  pub chosen_number : (floor : ℕ) (name : List ℕ) (least above : ℕ) (k : StoredState T) (xs : List (StoredState T)) → Rises least above xs → chosen floor name xs ≡ Some k → with_number k.number xs ≡ Some k
  chosen_number floor name least above k [] r h = absurd (cc)
  chosen_number floor name least above k (x ∷ xs) r h =
      number_step (leb floor x.number && same x.name.0 name) k x xs (chosen floor name xs) h
      (λ (q : chosen floor name xs ≡ Some k). chosen_low floor name (suc x.number) above k xs r.2 q)
      (λ (q : chosen floor name xs ≡ Some k). chosen_number floor name (suc x.number) above k xs r.2 q)

  found_case : (o : Option (StoredState T)) (n : ℕ) (kept : List (StoredState T)) → Some n ≡ option_map (λ (k : StoredState T). k.number) o → ((k : StoredState T) → o ≡ Some k → with_number k.number kept ≡ Some k) → with_number n kept ≡ o
  found_case None n kept h more = absurd (cc)
  found_case (Some k) n kept h more = let e : k.number ≡ n = cc in subst (λ (m : ℕ). with_number m kept ≡ Some k) e (more k refl)

  -- the number that was found has the state
  pub found_number : (floor : ℕ) (name : List ℕ) (least above n : ℕ) (kept : List (StoredState T)) → Rises least above kept → Some n ≡ option_map (λ (l : ℕ × Name). l.0) (find (is_label floor name) (map number_and_name kept)) → with_number n kept ≡ with_name name (not_below floor kept)
  found_number floor name least above n kept r h =
      found_case (chosen floor name kept) n kept (h ∙ label_chosen floor name kept) (λ k q. chosen_number floor name least above k kept r q) ∙ sym (named_chosen floor name kept)

  none_case : (o : Option (StoredState T)) → None ≡ option_map (λ (k : StoredState T). k.number) o → o ≡ None
  none_case None h = refl
  none_case (Some k) h = absurd (cc)

  pub found_none : (floor : ℕ) (name : List ℕ) (kept : List (StoredState T)) → None ≡ option_map (λ (l : ℕ × Name). l.0) (find (is_label floor name) (map number_and_name kept)) → with_name name (not_below floor kept) ≡ None
  found_none floor name kept h = named_chosen floor name kept ∙ none_case (chosen floor name kept) (h ∙ label_chosen floor name kept)
