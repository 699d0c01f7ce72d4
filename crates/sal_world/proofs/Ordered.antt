-- States in rising order of numbers that differ, and what an acknowledgement says of them.
use Rattle.std.proofs.Common.{◌≡◌, ◌≢◌, ℕ, ◌-◌, ◌<◌, ◌≤◌, Bool, true, false, cond, List, [], ◌∷◌, length, map, Option, Some, None, refl, arith, ltb, leb}
use Rattle.std.proofs.lemmas.Bool.{ltb-true, ltb-false, leb-true}
use Rattle.sal_base.specs.Lists.{Each}
use Rattle.sal_wire.specs.Layout.{IsWireName, AreRising}
use Rattle.sal_chain.specs.declared.stored_state.StoredState.{StoredState}
use Rattle.sal_chain.specs.Held.{inserted, in_order, not_below, number_and_name}
use Rattle.sal_budget.specs.declared.gap.Gap.{Gap}
use Rattle.sal_budget.specs.Gap.{Arrival, average_after, gap_after}

module _ {T : Type 0} where
  -- numbers rise, each above the one before
  abbrev pub Rises : ℕ → List (StoredState T) → Type 0
  Rises least [] = Unit {0}
  Rises least (k ∷ rest) = (least < k.number) × Rises k.number rest

  -- no number stands twice
  abbrev pub NotIn : ℕ → List (StoredState T) → Type 0
  NotIn n kept = Each (λ k. k.number ≢ n) kept

  abbrev pub Distinct : List (StoredState T) → Type 0
  Distinct [] = Unit {0}
  Distinct (k ∷ kept) = NotIn k.number kept × Distinct kept

  pub rises_lower : (least low : ℕ) (xs : List (StoredState T)) → low ≤ least → Rises least xs → Rises low xs
  rises_lower least low [] h r = tt
  rises_lower least low (x ∷ xs) h r = ((let a : least < x.number = r.0 in omega arith), r.1)

  placed_each : (P : StoredState T → Type 0) (b : Bool) (k x : StoredState T) (xs more : List (StoredState T)) → P k → Each P (x ∷ xs) → Each P more → Each P (cond b (k ∷ x ∷ xs) (x ∷ more))
  placed_each P true k x xs more own each there = (own, each)
  placed_each P false k x xs more own each there = (each.0, there)

  pub each_placed : (P : StoredState T → Type 0) (k : StoredState T) (xs : List (StoredState T)) → P k → Each P xs → Each P (inserted k xs)
  each_placed P k [] own each = (own, tt)
  each_placed P k (x ∷ xs) own each = placed_each P (ltb k.number x.number) k x xs (inserted k xs) own each (each_placed P k xs own each.1)

  pub each_order : (P : StoredState T → Type 0) (xs : List (StoredState T)) → Each P xs → Each P (in_order xs)
  each_order P [] each = tt
  each_order P (k ∷ xs) each = each_placed P k (in_order xs) each.0 (each_order P xs each.1)

  from_each : (P : StoredState T → Type 0) (b : Bool) (k : StoredState T) (xs : List (StoredState T)) → (b ≡ true → P k) → Each P xs → Each P (cond b (k ∷ xs) xs)
  from_each P true k xs own each = (own refl, each)
  from_each P false k xs own each = each

  pub each_from : (P : StoredState T → Type 0) (floor : ℕ) (xs : List (StoredState T)) → Each P xs → Each P (not_below floor xs)
  each_from P floor [] each = tt
  each_from P floor (k ∷ xs) each = from_each P (leb floor k.number) k (not_below floor xs) (λ e. each.0) (each_from P floor xs each.1)

  pub from_low : (floor : ℕ) (xs : List (StoredState T)) → Each (λ k. floor ≤ k.number) (not_below floor xs)
  from_low floor [] = tt
  from_low floor (k ∷ xs) = from_each (λ k. floor ≤ k.number) (leb floor k.number) k (not_below floor xs) (λ e. leb-true _ _ e) (from_low floor xs)

  distinct_step : (b : Bool) (k : StoredState T) (xs : List (StoredState T)) → NotIn k.number xs → Distinct xs → Distinct (cond b (k ∷ xs) xs)
  distinct_step true k xs other rest = (other, rest)
  distinct_step false k xs other rest = rest

  pub distinct_from : (floor : ℕ) (xs : List (StoredState T)) → Distinct xs → Distinct (not_below floor xs)
  distinct_from floor [] d = tt
  distinct_from floor (k ∷ xs) d = distinct_step (leb floor k.number) k (not_below floor xs) (each_from (λ x. x.number ≢ k.number) floor xs d.0) (distinct_from floor xs d.1)

  rises_step : (b : Bool) (least : ℕ) (k x : StoredState T) (xs more : List (StoredState T)) → ltb k.number x.number ≡ b → Rises least (x ∷ xs) → least < k.number → x.number ≢ k.number → (x.number < k.number → Rises x.number more) → Rises least (cond b (k ∷ x ∷ xs) (x ∷ more))
  rises_step true least k x xs more e r low other there = (low, (ltb-true _ _ e, r.1))
  rises_step false least k x xs more e r low other there = (r.0, there (let a : x.number ≤ k.number = ltb-false _ _ e in omega (arith, other)))

  pub rises_placed : (least : ℕ) (k : StoredState T) (xs : List (StoredState T)) → Rises least xs → least < k.number → NotIn k.number xs → Rises least (inserted k xs)
  rises_placed least k [] r low other = (low, tt)
  rises_placed least k (x ∷ xs) r low other = rises_step (ltb k.number x.number) least k x xs (inserted k xs) refl r low other.0 (λ less. rises_placed x.number k xs r.1 less other.1)

  pub rises_order : (least : ℕ) (xs : List (StoredState T)) → Each (λ k. least < k.number) xs → Distinct xs → Rises least (in_order xs)
  rises_order least [] low d = tt
  rises_order least (k ∷ xs) low d = rises_placed least k (in_order xs) (rises_order least xs low.1 d.1) low.0 (each_order (λ x. x.number ≢ k.number) xs d.0)

  -- no more than there are numbers
  pub few_between : (least top : ℕ) (xs : List (StoredState T)) → Rises least xs → Each (λ k. k.number ≤ top) xs → length xs ≤ top - least
  few_between least top [] r low = omega arith
  few_between least top (k ∷ xs) r low =
      let more : length xs ≤ top - k.number = few_between k.number top xs r.1 low.1 in
      let a : least < k.number = r.0 in
      let b : k.number ≤ top = low.0 in
      omega arith

  pub are_rising : (least : ℕ) (xs : List (StoredState T)) → Rises least xs → Each (λ k. (k.number ≤ 1048575) × IsWireName k.name.0) xs → AreRising least (map number_and_name xs)
  are_rising least [] r each = tt
  are_rising least (k ∷ xs) r each = (r.0, each.0.0, each.0.1, are_rising k.number xs r.1 each.1)

-- ---- the gap

average_low : (a : Arrival) (average : ℕ) (o : Option ℕ) → average ≤ 10000000 → average_after a average o ≤ 10000000
average_low a average None low = low
average_low a average (Some last) low = omega arith

arrived_low : (b : Bool) (a : Arrival) (g : Gap) → g.average ≤ 10000000 → (cond b g (record { average = average_after a g.average g.last; last = Some a.moment; greatest = a.serial })).average ≤ 10000000
arrived_low true a g low = low
arrived_low false a g low = average_low a g.average g.last low

pub gap_low : (arrivals : List Arrival) → (gap_after arrivals).average ≤ 10000000
unfolding gap_after
gap_low [] = omega arith
gap_low (a ∷ before) = arrived_low (leb a.serial (gap_after before).greatest) a (gap_after before) (gap_low before)

serial_step : (b : Bool) (a : Arrival) (g : Gap) (top : ℕ) → a.serial ≤ top → g.greatest ≤ top → (cond b g (record { average = average_after a g.average g.last; last = Some a.moment; greatest = a.serial })).greatest ≤ top
serial_step true a g top own low = low
serial_step false a g top own low = own

pub gap_serial : (arrivals : List Arrival) (top : ℕ) → Each (λ a. a.serial ≤ top) arrivals → (gap_after arrivals).greatest ≤ top
unfolding gap_after
gap_serial [] top each = omega arith
gap_serial (a ∷ before) top each = serial_step (leb a.serial (gap_after before).greatest) a (gap_after before) top each.0 (gap_serial before top each.1)
