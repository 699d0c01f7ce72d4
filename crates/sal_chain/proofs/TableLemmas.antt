-- Lists of states in rising order.
use Rattle.std.proofs.Common.{◌≡◌, ◌≢◌, ℕ, suc, ◌+◌, ◌-◌, ◌<◌, ◌≤◌, Bool, true, false, cond, not, List, [], ◌∷◌, length, Option, Some, None, refl, ap, ◌∙◌, arith, ltb, leb, eqb, max}
use Rattle.std.proofs.lemmas.Bool.{ltb-true, ltb-false, leb-true, eqb-false}
use Rattle.std.specs.List.{insert, position}
use Rattle.std.specs.Option.{unwrap_or}
use Rattle.sal_chain.specs.declared.stored_state.StoredState.{StoredState}
use Rattle.sal_chain.specs.Held.{inserted, not_below, with_number, place_in}
use Rattle.sal_chain.specs.StateTable.{StateTable, Rises, IsStateTable, floor_raised}

step_short : (b : Bool) (n m : ℕ) → n ≤ m → cond (not b) (1 + n) 0 ≤ suc m
step_short true n m h = omega arith
step_short false n m h = omega arith

step_or : (b : Bool) (n m : ℕ) → ltb n m ≡ b → n ≤ m → unwrap_or (cond b (Some n) None) m ≡ n
step_or true n m e h = refl
step_or false n m e h = let a : m ≤ n = ltb-false _ _ e in omega arith

module _ {T : Type 0} where
  -- at most as many as there are numbers
  pub rises_short : (least above : ℕ) (xs : List (StoredState T)) → Rises least above xs → length xs ≤ above - least
  rises_short least above [] h = omega arith
  rises_short least above (k ∷ rest) h = let ih : length rest ≤ above - suc k.number = rises_short (suc k.number) above rest h.2 in let a : least ≤ k.number = h.0 in let b : k.number < above = h.1 in omega arith

  pub rises_wider : (least above wide : ℕ) (xs : List (StoredState T)) → above ≤ wide → Rises least above xs → Rises least wide xs
  rises_wider least above wide [] h r = tt
  rises_wider least above wide (x ∷ xs) h r = (r.0, (let a : x.number < above = r.1 in omega arith), rises_wider (suc x.number) above wide xs h r.2)

  -- the first one may begin lower
  pub rises_lower : (least low above : ℕ) (xs : List (StoredState T)) → low ≤ least → Rises least above xs → Rises low above xs
  rises_lower least low above [] h r = tt
  rises_lower least low above (x ∷ xs) h r = ((let a : least ≤ x.number = r.0 in omega arith), r.1, r.2)

  -- a number that isn't found is another one than the first, and isn't found in the rest
  other_first : (b : Bool) (x : StoredState T) (rest : Option (StoredState T)) → cond b (Some x) rest ≡ None → (b ≡ false) × (rest ≡ None)
  other_first true x rest h = absurd (cc)
  other_first false x rest h = (refl, h)

  step_placed : (b : Bool) (least above : ℕ) (k x : StoredState T) (xs : List (StoredState T)) → ltb k.number x.number ≡ b → Rises least above (x ∷ xs) → least ≤ k.number → k.number < above → x.number ≢ k.number → (suc x.number ≤ k.number → Rises (suc x.number) above (inserted k xs)) → Rises least above (cond b (k ∷ x ∷ xs) (x ∷ inserted k xs))
  step_placed true least above k x xs e h low high other more = (low, high, ((let a : k.number < x.number = ltb-true _ _ e in omega arith), h.1, h.2))
  step_placed false least above k x xs e h low high other more = (h.0, h.1, more (let a : x.number ≤ k.number = ltb-false _ _ e in omega arith))

  pub rises_placed : (least above : ℕ) (k : StoredState T) (xs : List (StoredState T)) → Rises least above xs → least ≤ k.number → k.number < above → with_number k.number xs ≡ None → Rises least above (inserted k xs)
  rises_placed least above k [] h low high fresh = (low, high, tt)
  rises_placed least above k (x ∷ xs) h low high fresh =
      let other = other_first (eqb x.number k.number) x (with_number k.number xs) fresh in
      step_placed (ltb k.number x.number) least above k x xs refl h low high (eqb-false _ _ other.0) (λ (q : suc x.number ≤ k.number). rises_placed (suc x.number) above k xs h.2 q high other.1)

  step_length : (b : Bool) (k x : StoredState T) (xs ys : List (StoredState T)) → length ys ≡ length xs + 1 → length (cond b (k ∷ x ∷ xs) (x ∷ ys)) ≡ length (x ∷ xs) + 1
  step_length true k x xs ys h = omega arith
  step_length false k x xs ys h = omega arith

  pub length_placed : (k : StoredState T) (xs : List (StoredState T)) → length (inserted k xs) ≡ length xs + 1
  length_placed k [] = refl
  length_placed k (x ∷ xs) = step_length (ltb k.number x.number) k x xs (inserted k xs) (length_placed k xs)

  one_more : (n : ℕ) (k x : StoredState T) (xs : List (StoredState T)) → insert (x ∷ xs) (1 + n) k ≡ x ∷ insert xs n k
  one_more n k x xs = let e : 1 + n ≡ suc n = omega arith in rw e refl

  step_insert : (b : Bool) (n : ℕ) (k x : StoredState T) (xs ys : List (StoredState T)) → insert xs n k ≡ ys → insert (x ∷ xs) (cond (not b) (1 + n) 0) k ≡ cond b (k ∷ x ∷ xs) (x ∷ ys)
  step_insert true n k x xs ys h = refl
  step_insert false n k x xs ys h = one_more n k x xs ∙ ap (λ zs. x ∷ zs) h

  pub placed_insert : (k : StoredState T) (xs : List (StoredState T)) → insert xs (place_in k.number xs) k ≡ inserted k xs
  placed_insert k [] = refl
  placed_insert k (x ∷ xs) = step_insert (ltb k.number x.number) (place_in k.number xs) k x xs (inserted k xs) (placed_insert k xs)

  pub place_short : (n : ℕ) (xs : List (StoredState T)) → place_in n xs ≤ length xs
  place_short n [] = omega arith
  place_short n (x ∷ xs) = step_short (ltb n x.number) (place_in n xs) (length xs) (place_short n xs)

  step_filter : (b : Bool) (n above : ℕ) (y : StoredState T) (ys : List (StoredState T)) → n ≤ y.number → y.number < above → Rises (suc y.number) above ys → Rises n above (cond b (y ∷ ys) ys)
  step_filter true n above y ys low high r = (low, high, r)
  step_filter false n above y ys low high r = rises_lower (suc y.number) n above ys (omega arith) r

  rises_filter : (n above floor : ℕ) (ys : List (StoredState T)) → Rises n above ys → Rises n above (not_below floor ys)
  rises_filter n above floor [] r = tt
  rises_filter n above floor (y ∷ ys) r = step_filter (leb floor y.number) n above y (not_below floor ys) r.0 r.1 (rises_filter (suc y.number) above floor ys r.2)

  step_from : (b : Bool) (above floor : ℕ) (x : StoredState T) (xs : List (StoredState T)) → leb floor x.number ≡ b → x.number < above → Rises (suc x.number) above xs → Rises floor above xs → Rises floor above (cond b (x ∷ xs) xs)
  step_from true above floor x xs e high r rest = (leb-true _ _ e, high, r)
  step_from false above floor x xs e high r rest = rest

  pub rises_from : (least above floor : ℕ) (xs : List (StoredState T)) → Rises least above xs → Rises floor above (not_below floor xs)
  rises_from least above floor [] h = tt
  rises_from least above floor (x ∷ xs) h = step_from (leb floor x.number) above floor x (not_below floor xs) refl h.1 (rises_filter (suc x.number) above floor xs h.2) (rises_from (suc x.number) above floor xs h.2)

  pub place_or : (n : ℕ) (xs : List (StoredState T)) → unwrap_or (position (λ k. ltb n k.number) xs) (length xs) ≡ place_in n xs
  place_or n xs = step_or (ltb (place_in n xs) (length xs)) (place_in n xs) (length xs) refl (place_short n xs)

  -- a state whose number stands in the window and isn't held keeps the shelf
  pub table_inserted : (s : StateTable T) (floor : ℕ) (items : List (StoredState T)) (k : StoredState T) → record { floor = floor; kept = items } ≡ s → IsStateTable floor items → s.floor ≤ k.number → k.number < s.floor + 16 → with_number k.number s.kept ≡ None → IsStateTable floor (inserted k items)
  table_inserted s floor items k view is low high fresh =
      let f : floor ≡ s.floor = ap (λ v. v.floor) view in
      let e : items ≡ s.kept = ap (λ v. v.kept) view in
      rises_placed floor (floor + 16) k items is (omega (arith, f)) (omega (arith, f)) (ap (λ xs. with_number k.number xs) e ∙ fresh)

  -- and finds room
  pub room_left : (s : StateTable T) (floor : ℕ) (items : List (StoredState T)) (k : StoredState T) → record { floor = floor; kept = items } ≡ s → IsStateTable floor items → s.floor ≤ k.number → k.number < s.floor + 16 → with_number k.number s.kept ≡ None → length items < 16
  room_left s floor items k view is low high fresh =
      let short : length (inserted k items) ≤ (floor + 16) - floor = rises_short floor (floor + 16) (inserted k items) (table_inserted s floor items k view is low high fresh) in
      let long : length (inserted k items) ≡ length items + 1 = length_placed k items in
      omega arith

  -- what is left at or above a higher floor is a shelf
  pub table_not_below : (low floor : ℕ) (items : List (StoredState T)) → IsStateTable low items → low ≤ floor → IsStateTable floor (not_below floor items)
  table_not_below low floor items is higher = rises_wider floor (low + 16) (floor + 16) (not_below floor items) (omega arith) (rises_from low (low + 16) floor items is)

  pub table_short : (floor : ℕ) (items : List (StoredState T)) → IsStateTable floor items → length items ≤ 16
  table_short floor items is = let short : length items ≤ (floor + 16) - floor = rises_short floor (floor + 16) items is in omega arith

  same_table : (a b : ℕ) (xs ys : List (StoredState T)) → a ≡ b → xs ≡ ys → ◌≡◌ {A = StateTable T} (record { floor = a; kept = xs }) (record { floor = b; kept = ys })
  same_table a b xs ys e f = cc

  pub table_added : (s : StateTable T) (floor : ℕ) (items new : List (StoredState T)) (k : StoredState T) → ◌≡◌ {A = StateTable T} (record { floor = floor; kept = items }) s → new ≡ inserted k items → ◌≡◌ {A = StateTable T} (record { floor = floor; kept = new }) (record { floor = s.floor; kept = inserted k s.kept })
  table_added s floor items new k view e = same_table floor s.floor new (inserted k s.kept) (ap (λ (v : StateTable T). v.floor) view) (e ∙ ap (λ (v : StateTable T). inserted k v.kept) view)

  pub table_raised : (s : StateTable T) (floor high raise : ℕ) (items new : List (StoredState T)) → ◌≡◌ {A = StateTable T} (record { floor = floor; kept = items }) s → raise ≡ max floor high → new ≡ not_below raise items → ◌≡◌ {A = StateTable T} (record { floor = raise; kept = new }) (floor_raised high s)
  table_raised s floor high raise items new view h e =
      let p : raise ≡ max s.floor high = h ∙ ap (λ (v : StateTable T). max v.floor high) view in
      same_table raise (max s.floor high) new (not_below (max s.floor high) s.kept) p (e ∙ (ap (λ (n : ℕ). not_below n items) p ∙ ap (λ (v : StateTable T). not_below (max s.floor high) v.kept) view))
