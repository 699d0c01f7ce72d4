-- Histories with one item more, and beginnings of histories.
use Rattle.std.proofs.Common.{◌≡◌, ◌≢◌, ℕ, ◌+◌, ◌<◌, ◌≤◌, ◌⊎◌, List, [], ◌∷◌, ◌++◌, length, Option, Some, None, Bool, true, false, eqb, refl, sym, ap, ◌∙◌, subst, inl, inr, ⊎_elim, arith, zero, suc, append_assoc, nat_lt, if◌then◌else◌}
use Rattle.std.proofs.lemmas.List.{append-nil}
use Rattle.std.proofs.lemmas.Bool.Decides.{nat_tests}
use mathlib.Core.List.{map-append}
use mathlib.Core.Option.{some, some-injective, some-ne-none}
use lib.ListN.{get_elem?}
use Rattle.sal_desk.specs.declared.view.Item.{Item}
use Rattle.sal_desk.specs.declared.view.Item.TheVariants.{Entry}
use Rattle.sal_desk.specs.Histories.{same, Each, Any, StartsWith, longer, shorter, entry_of, item_of, listed, unnamed, entries, of_name, entries_by, Legal}

-- ---- names

pub same_refl : (name : List ℕ) → same name name ≡ true
same_refl [] = refl
same_refl (x ∷ xs) = grind (arith, nat_tests, same_refl xs)

same_step : (x y : ℕ) (xs ys : List ℕ) → (same xs ys ≡ true → xs ≡ ys) → (b : Bool) → eqb x y ≡ b → same (x ∷ xs) (y ∷ ys) ≡ true → x ∷ xs ≡ y ∷ ys
same_step x y xs ys tails true h e =
    let head : x ≡ y = grind (arith, nat_tests) in
    let rest : same xs ys ≡ true = grind (arith, nat_tests) in
    let tail = tails rest in
    ap (λ (n : ℕ). n ∷ xs) head ∙ ap (λ (l : List ℕ). y ∷ l) tail
same_step x y xs ys tails false h e = let no : false ≡ true = grind (arith, nat_tests) in cc

pub same_is : (m n : List ℕ) → same m n ≡ true → m ≡ n
same_is [] [] e = refl
same_is [] (y ∷ ys) e = cc
same_is (x ∷ xs) [] e = cc
same_is (x ∷ xs) (y ∷ ys) e = same_step x y xs ys (same_is xs ys) (eqb x y) refl e

-- ---- one element by its place

module _ {A : Type 0} where
  pub at_below : (l : List A) (i : ℕ) (a : A) → get_elem? l i ≡ some a → i < length l
  at_below [] i a e = absurd (some-ne-none a (sym e))
  at_below (x ∷ xs) zero a e = omega arith
  at_below (x ∷ xs) (suc i) a e = let h = at_below xs i a e in omega (arith, h)

  pub at_end : (l : List A) (a b : A) (j : ℕ) → get_elem? (l ++ a ∷ []) j ≡ some b → (get_elem? l j ≡ some b) ⊎ ((j ≡ length l) × (a ≡ b))
  at_end [] a b zero e = inr (refl, some-injective a b e)
  at_end [] a b (suc j) e = absurd (some-ne-none b (sym e))
  at_end (x ∷ xs) a b zero e = inl e
  at_end (x ∷ xs) a b (suc j) e = ⊎_elim (λ h. inl h) (λ h. inr (ap suc h.0, h.1)) (at_end xs a b j e)

  pub at_both : (l m : List A) (j : ℕ) (b : A) → get_elem? (l ++ m) j ≡ some b → (get_elem? l j ≡ some b) ⊎ ((i : ℕ) × ((j ≡ length l + i) × (get_elem? m i ≡ some b)))
  at_both [] m j b e = inr (j, (omega arith, e))
  at_both (x ∷ xs) m zero b e = inl e
  at_both (x ∷ xs) m (suc j) b e = ⊎_elim (λ h. inl h) (λ h. let long = h.1.0 in inr (h.0, (omega (arith, long), h.1.1))) (at_both xs m j b e)

  pub at_after : (l m : List A) (i : ℕ) (b : A) → get_elem? m i ≡ some b → get_elem? (l ++ m) (length l + i) ≡ some b
  at_after [] m i b e = subst (λ (k : ℕ). get_elem? m k ≡ some b) (omega arith) e
  at_after (x ∷ xs) m i b e =
      let h : suc (length xs + i) ≡ length (x ∷ xs) + i = omega arith in
      subst (λ (k : ℕ). get_elem? (x ∷ (xs ++ m)) k ≡ some b) h (at_after xs m i b e)

  pub each_at : (P : A → Type 0) (l : List A) (i : ℕ) (a : A) → Each P l → get_elem? l i ≡ some a → P a
  each_at P [] i a h e = absurd (some-ne-none a (sym e))
  each_at P (x ∷ xs) zero a h e = subst P (some-injective x a e) h.0
  each_at P (x ∷ xs) (suc i) a h e = each_at P xs i a h.1 e

  pub any_at : (P : A → Type 0) (l : List A) → Any P l → (i : ℕ) × ((a : A) × ((get_elem? l i ≡ some a) × P a))
  any_at P [] h = absurd h
  any_at P (x ∷ xs) h = ⊎_elim (λ p. (0, (x, (refl, p)))) (λ q. let r = any_at P xs q in (suc r.0, (r.1.0, (r.1.1.0, r.1.1.1)))) h

  pub at_each : (P : A → Type 0) (l : List A) → ((i : ℕ) (a : A) → get_elem? l i ≡ some a → P a) → Each P l
  at_each P [] h = tt
  at_each P (x ∷ xs) h = (h 0 x refl, at_each P xs (λ i a e. h (suc i) a e))

  pub at_any : (P : A → Type 0) (l : List A) (i : ℕ) (a : A) → get_elem? l i ≡ some a → P a → Any P l
  at_any P [] i a e p = absurd (some-ne-none a (sym e))
  at_any P (x ∷ xs) zero a e p = inl (subst P (sym (some-injective x a e)) p)
  at_any P (x ∷ xs) (suc i) a e p = inr (at_any P xs i a e p)

  -- ---- beginnings

  pub begins_itself : (l : List A) → StartsWith l l
  begins_itself l = ([], sym (append-nil l))

  pub begins_longer : (l seen : List A) (x : A) → StartsWith l seen → StartsWith (l ++ x ∷ []) seen
  begins_longer l seen x h = (h.0 ++ x ∷ [], ap (λ m. m ++ x ∷ []) h.1 ∙ append_assoc seen h.0 (x ∷ []))

  pub begins_shorter : (a b r s : List A) → a ++ r ≡ b ++ s → length b ≤ length a → StartsWith a b
  begins_shorter a [] r s h le = (a, refl)
  begins_shorter [] (y ∷ ys) r s h le = absurd (omega (arith, le))
  begins_shorter (x ∷ xs) (y ∷ ys) r s h le =
      let head : x ≡ y = cc in
      let tails : xs ++ r ≡ ys ++ s = cc in
      let rest = begins_shorter xs ys r s tails (omega (arith, le)) in
      (rest.0, ap (λ (z : A). z ∷ xs) head ∙ ap (λ (l : List A). y ∷ l) rest.1)

  -- of two beginnings of one list the shorter begins the longer
  pub shorter_begins : (l a b : List A) → StartsWith l a → StartsWith l b → StartsWith (longer a b) (shorter a b)
  shorter_begins l a b p q = go (nat_lt (length a) (length b)) refl
    where
      same_list : a ++ p.0 ≡ b ++ q.0
      same_list = sym p.1 ∙ q.1

      go : (t : Bool) → nat_lt (length a) (length b) ≡ t → StartsWith (longer a b) (shorter a b)
      go true e = rw e (let le : length a ≤ length b = grind (arith, nat_tests) in begins_shorter b a q.0 p.0 (sym same_list) le)
      go false e = rw e (let le : length b ≤ length a = grind (arith, nat_tests) in begins_shorter a b p.0 q.0 same_list le)

  pub longer_begins : (l a b : List A) → StartsWith l a → StartsWith l b → StartsWith l (longer a b)
  longer_begins l a b p q = go (nat_lt (length a) (length b)) refl
    where
      go : (t : Bool) → nat_lt (length a) (length b) ≡ t → StartsWith l (longer a b)
      go true e = rw e q
      go false e = rw e p

  -- the longer of the two is one of them, and begins with both
  pub longer_is : (a b : List A) → StartsWith (longer a b) (shorter a b) → ((longer a b ≡ a) ⊎ (longer a b ≡ b)) × (StartsWith (longer a b) a × StartsWith (longer a b) b)
  longer_is a b h = go (nat_lt (length a) (length b)) refl h
    where
      go : (t : Bool) → nat_lt (length a) (length b) ≡ t → StartsWith (longer a b) (shorter a b) → ((longer a b ≡ a) ⊎ (longer a b ≡ b)) × (StartsWith (longer a b) a × StartsWith (longer a b) b)
      go true e h = let k : StartsWith b a = subst (λ (t : Bool). StartsWith (if t then b else a) (if t then a else b)) e h in rw e (inr refl, (k, begins_itself b))
      go false e h = let k : StartsWith a b = subst (λ (t : Bool). StartsWith (if t then b else a) (if t then a else b)) e h in rw e (inl refl, (begins_itself a, k))

  -- ---- the last element

  pub last_same : (l : List A) (x y : A) → l ++ x ∷ [] ≡ l ++ y ∷ [] → x ≡ y
  last_same [] x y e = cc
  last_same (z ∷ zs) x y e = let t : zs ++ x ∷ [] ≡ zs ++ y ∷ [] = cc in last_same zs x y t

  split_last : (l before after : List A) (e x : A) → l ++ e ∷ [] ≡ before ++ x ∷ after → ((l ≡ before) × (e ≡ x)) ⊎ ((rest : List A) × (l ≡ before ++ x ∷ rest))
  split_last [] [] after e x h = inl (refl, cc)
  split_last [] (b ∷ []) after e x h = absurd cc
  split_last [] (b ∷ c ∷ cs) after e x h = absurd cc
  split_last (a ∷ rest_of) [] after e x h = let head : a ≡ x = cc in inr (rest_of, ap (λ (z : A). z ∷ rest_of) head)
  split_last (a ∷ rest_of) (b ∷ bs) after e x h =
      let head : a ≡ b = cc in
      let tails : rest_of ++ e ∷ [] ≡ bs ++ x ∷ after = cc in
      ⊎_elim (λ p. inl (ap (λ (z : A). z ∷ rest_of) head ∙ ap (λ (m : List A). b ∷ m) p.0, p.1))
      (λ p. inr (p.0, ap (λ (z : A). z ∷ rest_of) head ∙ ap (λ (m : List A). b ∷ m) p.1)) (split_last rest_of bs after e x tails)

  -- a legal list stays so with what may follow
  pub legal_more : (follows : List A → A → Type 0) (l : List A) (made : Option A) → Legal follows l → ((e : A) → made ≡ Some e → follows l e) → Legal follows (l ++ listed made)
  legal_more follows l None ok may = subst (λ (m : List A). Legal follows m) (sym (append-nil l)) ok
  legal_more follows l (Some e) ok may = λ before after x h.
      ⊎_elim (λ p. subst (λ (m : List A). follows m x) p.0 (subst (λ (y : A). follows l y) p.1 (may e refl))) (λ p. ok before p.0 x p.1) (split_last l before after e x h)

-- ---- one item more

module _ {E : Type 0} where
  pub item_is : (name : List ℕ) (made : Option E) → entry_of (item_of name made) ≡ made
  item_is name None = refl
  item_is name (Some e) = refl

  pub unnamed_more : (log : List (Item E)) (name : List ℕ) (made : Option E) → unnamed (log ++ item_of name made ∷ []) ≡ unnamed log ++ made ∷ []
  unnamed_more log name made = map-append entry_of log (item_of name made ∷ []) ∙ ap (λ (o : Option E). unnamed log ++ o ∷ []) (item_is name made)

  entries_snoc : (log : List (Item E)) (item : Item E) → entries (log ++ item ∷ []) ≡ entries log ++ listed (entry_of item)
  entries_snoc [] item = append-nil (listed (entry_of item))
  entries_snoc (i ∷ log) item = ap (λ (l : List E). listed (entry_of i) ++ l) (entries_snoc log item) ∙ sym (append_assoc (listed (entry_of i)) (entries log) (listed (entry_of item)))

  pub entries_more : (log : List (Item E)) (name : List ℕ) (made : Option E) → entries (log ++ item_of name made ∷ []) ≡ entries log ++ listed made
  entries_more log name made = entries_snoc log (item_of name made) ∙ ap (λ (o : Option E). entries log ++ listed o) (item_is name made)

  by_snoc : (name : List ℕ) (log : List (Item E)) (item : Item E) → entries_by name (log ++ item ∷ []) ≡ entries_by name log ++ of_name name item
  by_snoc name [] item = append-nil (of_name name item)
  by_snoc name (i ∷ log) item = ap (λ (l : List E). of_name name i ++ l) (by_snoc name log item) ∙ sym (append_assoc (of_name name i) (entries_by name log) (of_name name item))

  of_own : (name : List ℕ) (made : Option E) → of_name name (item_of name made) ≡ listed made
  of_own name None = refl
  of_own name (Some e) = rw (same_refl name) refl

  of_other : (name by : List ℕ) (made : Option E) → name ≢ by → of_name name (item_of by made) ≡ []
  of_other name by None ne = refl
  of_other name by (Some e) ne = go (same name by) refl
    where
      go : (b : Bool) → same name by ≡ b → of_name name (Entry by e) ≡ []
      go true h = absurd (ne (same_is name by h))
      go false h = rw h refl

  pub own_more : (log : List (Item E)) (name : List ℕ) (made : Option E) → entries_by name (log ++ item_of name made ∷ []) ≡ entries_by name log ++ listed made
  own_more log name made = by_snoc name log (item_of name made) ∙ ap (λ (l : List E). entries_by name log ++ l) (of_own name made)

  pub others_same : (log : List (Item E)) (name by : List ℕ) (made : Option E) → name ≢ by → entries_by name (log ++ item_of by made ∷ []) ≡ entries_by name log
  others_same log name by made ne =
      by_snoc name log (item_of by made) ∙ (ap (λ (l : List E). entries_by name log ++ l) (of_other name by made ne) ∙ append-nil (entries_by name log))
