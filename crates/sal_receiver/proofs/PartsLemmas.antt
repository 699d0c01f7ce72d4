-- The fragments of one number: what stays where one more comes that doesn't differ from them.
use Rattle.std.proofs.Common.{◌≡◌, ℕ, zero, suc, ◌+◌, ◌*◌, ◌<◌, ◌≤◌, Bool, true, false, cond, List, [], ◌∷◌, ◌++◌, length, Option, Some, None, is_some, unwrap_or, refl, ap, sym, ◌∙◌, subst, arith, eqb, ◌⊎◌, inl, inr}
use Rattle.std.proofs.lemmas.Bool.{eqb-true, and_parts, and_from, cases_lt}
use Rattle.std.specs.List.{list_all, flat_map}
use Rattle.std.specs.Option.{option_map}
use Rattle.sal_wire.specs.Fields.{FragmentFields}
use Rattle.sal_wire.specs.Fragmentation.{below}
use Rattle.sal_reasm.specs.declared.answers.ClashField.{ClashField}
use Rattle.sal_reasm.specs.declared.answers.ClashField.TheVariants.{Source, Target, Count, Length, Data}
use Rattle.sal_reasm.specs.Complete.{data_at, has_all, reassembled}
use Rattle.sal_reasm.specs.Offer.{Difference, or_else, first_difference, unequal, data_clash, clash_with_fragments}
use Rattle.sal_reasm.specs.Stands.{AreNamed}
use Rattle.sal_receiver.specs.Ready.{source_in, target_in}

-- ---- lists

all_same : (f g : ℕ → Bool) → ((k : ℕ) → f k ≡ g k) → (xs : List ℕ) → list_all f xs ≡ list_all g xs
all_same f g h [] = refl
all_same f g h (x ∷ xs) = rw (h x, all_same f g h xs) refl

flat_same : (f g : ℕ → List ℕ) → ((k : ℕ) → f k ≡ g k) → (xs : List ℕ) → flat_map f xs ≡ flat_map g xs
flat_same f g h [] = refl
flat_same f g h (x ∷ xs) = rw (h x, flat_same f g h xs) refl

all_more : (f g : ℕ → Bool) → ((k : ℕ) → f k ≡ true → g k ≡ true) → (xs : List ℕ) → list_all f xs ≡ true → list_all g xs ≡ true
all_more f g h [] all = refl
all_more f g h (x ∷ xs) all =
    let both = and_parts (f x) (list_all f xs) all in
    and_from (g x) (list_all g xs) (h x both.0) (all_more f g h xs both.1)

all_append : (f : ℕ → Bool) (xs ys : List ℕ) → list_all f (xs ++ ys) ≡ true → (list_all f xs ≡ true) × (list_all f ys ≡ true)
all_append f [] ys all = (refl, all)
all_append f (x ∷ xs) ys all =
    let both = and_parts (f x) (list_all f (xs ++ ys)) all in
    let rest = all_append f xs ys both.1 in
    (and_from (f x) (list_all f xs) both.0 rest.0, rest.1)

either_below : (f : ℕ → Bool) (n k : ℕ) → (k < n → f k ≡ true) → f n ≡ true → k < suc n → (k < n) ⊎ (n ≤ k) → f k ≡ true
either_below f n k more last h (inl less) = more less
either_below f n k more last h (inr over) = let e : k ≡ n = omega arith in ap f e ∙ last

below_all : (f : ℕ → Bool) (n k : ℕ) → list_all f (below n) ≡ true → k < n → f k ≡ true
unfolding below
below_all f zero k all h = absurd (omega arith)
below_all f (suc n) k all h =
    let both = all_append f (below n) (n ∷ []) all in
    either_below f n k (below_all f n k both.0) (and_parts (f n) true both.1).0 h (cases_lt k n)

-- ---- what no clash says

step_first : (b : Bool) (field : ClashField) (place x y : ℕ) (xs ys : List ℕ) → eqb x y ≡ b → (first_difference field (place + 1) xs ys ≡ None → xs ≡ ys) → cond b (first_difference field (place + 1) xs ys) (Some (field, 256 * place + x, 256 * place + y)) ≡ None → x ∷ xs ≡ y ∷ ys
step_first true field place x y xs ys same more h = let a : x ≡ y = eqb-true _ _ same in let b : xs ≡ ys = more h in cc
step_first false field place x y xs ys same more h = absurd (cc)

pub first_same : (field : ClashField) (place : ℕ) (xs ys : List ℕ) → length xs ≡ length ys → first_difference field place xs ys ≡ None → xs ≡ ys
first_same field place [] [] e h = refl
first_same field place [] (y ∷ ys) e h = absurd (omega (arith, e))
first_same field place (x ∷ xs) [] e h = absurd (omega (arith, e))
first_same field place (x ∷ xs) (y ∷ ys) e h = step_first (eqb x y) field place x y xs ys refl (first_same field (place + 1) xs ys (omega (arith, e))) h

pub or_else_parts : {X : Type 0} (o p : Option X) → or_else o p ≡ None → (o ≡ None) × (p ≡ None)
or_else_parts None p h = (refl, h)
or_else_parts (Some x) p h = absurd (cc)

unequal_none : (field : ClashField) (a b : ℕ) → unequal field a b ≡ None → a ≡ b
unequal_none field a b h = step (eqb a b) refl h
  where
    step : (t : Bool) → eqb a b ≡ t → cond {A = Option Difference} t None (Some (field, a, b)) ≡ None → a ≡ b
    step true e h = eqb-true _ _ e
    step false e h = absurd (cc)

data_none : (d b : List ℕ) → data_clash (Some d) b ≡ None → d ≡ b
data_none d b h =
    let both = or_else_parts (unequal Length (length d) (length b)) (first_difference Data 0 d b) h in
    first_same Data 0 d b (unequal_none Length (length d) (length b) both.0) both.1

-- source, target, count and the data of this index are the same
pub record IsLike (p : FragmentFields) (parts : List FragmentFields) (e : FragmentFields) : Type 0 where
  pub source : first_difference Source 0 p.source e.source ≡ None
  pub target : first_difference Target 0 p.target e.target ≡ None
  pub count : p.count ≡ e.count
  pub bytes : data_clash (data_at parts e.index) e.bytes ≡ None

pub is_like : (p : FragmentFields) (before : List FragmentFields) (e : FragmentFields) → clash_with_fragments (p ∷ before) e ≡ None → IsLike p (p ∷ before) e
is_like p before e h =
    let a = or_else_parts _ _ h in
    let b = or_else_parts _ _ a.1 in
    let c = or_else_parts _ _ b.1 in
    record { source = a.0; target = b.0; count = unequal_none Count p.count e.count c.0; bytes = c.1 }

-- ---- one more

more_data : (e : FragmentFields) (parts : List FragmentFields) (k : ℕ) → is_some (data_at parts k) ≡ true → is_some (data_at (e ∷ parts) k) ≡ true
more_data e parts k h = step (eqb e.index k)
  where
    step : (b : Bool) → is_some (option_map (λ (x : FragmentFields). x.bytes) (cond b (Some e) (Rattle.std.specs.List.find (λ (x : FragmentFields). eqb x.index k) parts))) ≡ true
    step true = refl
    step false = h

same_data : (e : FragmentFields) (parts : List FragmentFields) (k : ℕ) → data_at parts e.index ≡ Some e.bytes → data_at (e ∷ parts) k ≡ data_at parts k
same_data e parts k h = step (eqb e.index k) refl
  where
    step : (b : Bool) → eqb e.index k ≡ b → option_map (λ (x : FragmentFields). x.bytes) (cond b (Some e) (Rattle.std.specs.List.find (λ (x : FragmentFields). eqb x.index k) parts)) ≡ data_at parts k
    step true is = sym h ∙ ap (λ i. data_at parts i) (eqb-true _ _ is)
    step false is = refl

-- a frame that is whole stays so
pub all_stay : (e : FragmentFields) (parts : List FragmentFields) → clash_with_fragments parts e ≡ None → has_all parts ≡ true → has_all (e ∷ parts) ≡ true
all_stay e [] like all = absurd (cc)
all_stay e (p ∷ before) like all =
    subst (λ (n : ℕ). list_all (λ k. is_some (data_at (e ∷ p ∷ before) k)) (below n) ≡ true) (is_like p before e like).count
    (all_more (λ k. is_some (data_at (p ∷ before) k)) (λ k. is_some (data_at (e ∷ p ∷ before) k)) (λ k h. more_data e (p ∷ before) k h) (below p.count) all)

-- each of its indexes is there
pub index_there : (e : FragmentFields) (parts : List FragmentFields) → clash_with_fragments parts e ≡ None → e.index < e.count → has_all parts ≡ true → is_some (data_at parts e.index) ≡ true
index_there e [] like short all = absurd (cc)
index_there e (p ∷ before) like short all =
    below_all (λ k. is_some (data_at (p ∷ before) k)) p.count e.index all (omega (arith, (is_like p before e like).count))

-- these fragments say the same of their frame
pub record IsSame (new old : List FragmentFields) : Type 0 where
  pub source : source_in new ≡ source_in old
  pub target : target_in new ≡ target_in old
  pub all : has_all new ≡ has_all old
  pub bytes : reassembled new ≡ reassembled old

some_is : (o : Option (List ℕ)) (b : List ℕ) → data_clash o b ≡ None → is_some o ≡ true → o ≡ Some b
some_is None b like h = absurd (cc)
some_is (Some d) b like h = ap (λ (x : List ℕ). Some x) (data_none d b like)

-- a fragment that was there says nothing new
pub same_again : (e : FragmentFields) (parts : List FragmentFields) → AreNamed parts → length e.source ≡ 16 → length e.target ≡ 16 → clash_with_fragments parts e ≡ None → is_some (data_at parts e.index) ≡ true → IsSame (e ∷ parts) parts
same_again e [] named source target like there = absurd (cc)
same_again e (p ∷ before) named source target like there =
    let is = is_like p before e like in
    let there_is = λ (k : ℕ). same_data e (p ∷ before) k (some_is (data_at (p ∷ before) e.index) e.bytes is.bytes there) in
    record {
      source = sym (first_same Source 0 p.source e.source (omega (arith, named.0, source)) is.source);
      target = sym (first_same Target 0 p.target e.target (omega (arith, named.1, target)) is.target);
      all =
          all_same (λ k. is_some (data_at (e ∷ p ∷ before) k)) (λ k. is_some (data_at (p ∷ before) k)) (λ k. ap (λ (o : Option (List ℕ)). is_some o) (there_is k)) (below e.count)
          ∙ ap (λ (n : ℕ). list_all (λ k. is_some (data_at (p ∷ before) k)) (below n)) (sym is.count);
      bytes =
          flat_same (λ k. unwrap_or (data_at (e ∷ p ∷ before) k) []) (λ k. unwrap_or (data_at (p ∷ before) k) []) (λ k. ap (λ (o : Option (List ℕ)). unwrap_or o []) (there_is k)) (below e.count)
          ∙ ap (λ (n : ℕ). flat_map (λ k. unwrap_or (data_at (p ∷ before) k) []) (below n)) (sym is.count);
    }
