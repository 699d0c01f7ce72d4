-- The least of some numbers, and members of lists.
use Rattle.std.proofs.Common.{◌≡◌, ℕ, ◌<◌, ◌≤◌, Bool, true, false, cond, List, [], ◌∷◌, filter, map, Option, Some, None, refl, ap, sym, ◌∙◌, subst, arith, ltb, eqb, ◌⊎◌, inl, inr}
use Rattle.std.proofs.lemmas.Bool.{eqb-true, cases_lt}
use Rattle.sal_base.specs.Lists.{Has}
use Rattle.sal_wire.specs.Fields.{FragmentFields}
use Rattle.sal_reasm.specs.Complete.{floor_of, fragments_of, has_all}
use Rattle.sal_receiver.specs.Past.{with_taken}
use Rattle.sal_receiver.specs.Ready.{least, smaller}

least_step : (n : ℕ) (o : Option ℕ) (more : List ℕ) (m : ℕ) → ((k : ℕ) → o ≡ Some k → Has more k) → smaller n o ≡ m → Has (n ∷ more) m
least_step n None more m ih h = inl (sym h)
least_step n (Some k) more m ih h = step (cases_lt k n)
  where
    step : (k < n) ⊎ (n ≤ k) → Has (n ∷ more) m
    step (inl less) = let e : k ≡ m = omega (arith, h) in inr (subst (λ (x : ℕ). Has more x) e (ih k refl))
    step (inr over) = inl (omega (arith, h))

same_some : {X : Type 0} (x y : X) → Some x ≡ Some y → x ≡ y
same_some x y h = cc

pub least_in : (xs : List ℕ) (m : ℕ) → least xs ≡ Some m → Has xs m
least_in [] m h = absurd (cc)
least_in (x ∷ xs) m h = least_step x (least xs) xs m (least_in xs) (same_some _ _ h)

low_step : (n : ℕ) (o : Option ℕ) (more : List ℕ) (k : ℕ) → ((j : ℕ) → o ≡ Some j → Has more k → j ≤ k) → (o ≡ None → Has more k → ⊥) → Has (n ∷ more) k → smaller n o ≤ k
low_step n None more k ih none (inl e) = omega (arith, e)
low_step n None more k ih none (inr has) = absurd (none refl has)
low_step n (Some j) more k ih none (inl e) = omega (arith, e)
low_step n (Some j) more k ih none (inr has) = let a : j ≤ k = ih j refl has in omega arith

pub least_none : (xs : List ℕ) (k : ℕ) → least xs ≡ None → Has xs k → ⊥
least_none [] k h has = has
least_none (x ∷ xs) k h has = absurd (cc)

least_low : (xs : List ℕ) (m k : ℕ) → least xs ≡ Some m → Has xs k → m ≤ k
least_low [] m k h has = absurd has
least_low (x ∷ xs) m k h has =
    let e : smaller x (least xs) ≡ m = same_some _ _ h in
    let low : smaller x (least xs) ≤ k = low_step x (least xs) xs k (λ j e more. least_low xs j k e more) (λ e more. least_none xs k e more) has in
    omega (arith, e)

is_step : (xs : List ℕ) (m : ℕ) (o : Option ℕ) → least xs ≡ o → Has xs m → ((k : ℕ) → Has xs k → m ≤ k) → o ≡ Some m
is_step xs m None e has low = absurd (least_none xs m e has)
is_step xs m (Some j) e has low =
    let a : j ≤ m = least_low xs j m e has in
    let b : m ≤ j = low j (least_in xs j e) in
    let same : j ≡ m = omega arith in
    ap (λ (x : ℕ). Some x) same

-- one of them that is at most each is the least
pub least_is : (xs : List ℕ) (m : ℕ) → Has xs m → ((k : ℕ) → Has xs k → m ≤ k) → least xs ≡ Some m
least_is xs m has low = is_step xs m (least xs) refl has low

pub none_is : (xs : List ℕ) → ((k : ℕ) → Has xs k → ⊥) → least xs ≡ None
none_is [] none = refl
none_is (x ∷ xs) none = absurd (none x (inl refl))

filter_step : (b : Bool) (f : ℕ → Bool) (x : ℕ) (xs : List ℕ) (k : ℕ) → f x ≡ b → Has (cond b (x ∷ filter f xs) (filter f xs)) k → (Has (filter f xs) k → (f k ≡ true) × Has xs k) → (f k ≡ true) × Has (x ∷ xs) k
filter_step true f x xs k e (inl is) more = (ap f is ∙ e, inl is)
filter_step true f x xs k e (inr has) more = ((more has).0, inr (more has).1)
filter_step false f x xs k e has more = ((more has).0, inr (more has).1)

pub filter_has : (f : ℕ → Bool) (xs : List ℕ) (k : ℕ) → Has (filter f xs) k → (f k ≡ true) × Has xs k
filter_has f [] k has = absurd has
filter_has f (x ∷ xs) k has = filter_step (f x) f x xs k refl has (filter_has f xs k)

has_step : (b : Bool) (f : ℕ → Bool) (x : ℕ) (xs : List ℕ) (k : ℕ) → f x ≡ b → f k ≡ true → Has (x ∷ xs) k → (Has xs k → Has (filter f xs) k) → Has (cond b (x ∷ filter f xs) (filter f xs)) k
has_step true f x xs k e is (inl same) more = inl same
has_step true f x xs k e is (inr has) more = inr (more has)
has_step false f x xs k e is (inl same) more = absurd (let a : f k ≡ false = ap f same ∙ e in cc)
has_step false f x xs k e is (inr has) more = more has

pub has_filter : (f : ℕ → Bool) (xs : List ℕ) (k : ℕ) → f k ≡ true → Has xs k → Has (filter f xs) k
has_filter f [] k is has = has
has_filter f (x ∷ xs) k is has = has_step (f x) f x xs k refl is has (has_filter f xs k is)

-- ---- numbers of fragments

parts_step : (b : Bool) (e : FragmentFields) (es : List FragmentFields) (n : ℕ) → eqb e.number n ≡ b → has_all (cond b (e ∷ fragments_of n es) (fragments_of n es)) ≡ true → (has_all (fragments_of n es) ≡ true → Has (map (λ (e : FragmentFields). e.number) es) n) → Has (map (λ (e : FragmentFields). e.number) (e ∷ es)) n
parts_step true e es n is all more = inl (sym (eqb-true _ _ is))
parts_step false e es n is all more = inr (more all)

-- a whole frame's number is that of a fragment
pub parts_taken : (es : List FragmentFields) (n : ℕ) → has_all (fragments_of n es) ≡ true → Has (map (λ (e : FragmentFields). e.number) es) n
parts_taken [] n all = absurd (cc)
parts_taken (e ∷ es) n all = parts_step (eqb e.number n) e es n refl all (parts_taken es n)

grown_step : (b : Bool) (e : FragmentFields) (es : List FragmentFields) (n : ℕ) → Has (map (λ (e : FragmentFields). e.number) es) n → Has (map (λ (e : FragmentFields). e.number) (cond b es (e ∷ es))) n
grown_step true e es n has = has
grown_step false e es n has = inr has

pub grown : (o : Option FragmentFields) (es : List FragmentFields) (n : ℕ) → Has (map (λ (e : FragmentFields). e.number) es) n → Has (map (λ (e : FragmentFields). e.number) (with_taken o es)) n
grown None es n has = has
grown (Some e) es n has = grown_step (ltb e.number (floor_of es)) e es n has
