-- The first candidate of least cost, one by one.
use Rattle.std.proofs.Common.{◌≡◌, ◌∙◌, ℕ, ◌<◌, ◌≤◌, List, [], ◌∷◌, ◌++◌, Option, Some, None, refl, sym, ap, arith, if◌then◌else◌, inl, inr, ◌⊎◌}
use Rattle.std.specs.Prelude.{nat_lt, unwrap_or}
use Rattle.std.proofs.lemmas.Bool.{lt-ltb, le-ltb, cases_lt}
use Rattle.sal_search.specs.Costs.{sad, Candidate, candidate, better, first_least}

-- the second is taken, or the first is kept
pub takes : {A : Type 0} (a b : Candidate A) → b.cost < a.cost → b ≡ better a b
takes a b lt = rw (lt-ltb b.cost a.cost lt) refl

pub keeps : {A : Type 0} (a b : Candidate A) → a.cost ≤ b.cost → a ≡ better a b
keeps a b le = rw (le-ltb b.cost a.cost le) refl

-- one candidate more
pub more : {A : Type 0} (b a k : Candidate A) (ks : List (Candidate A)) → b ≡ better a k → first_least b ks ≡ first_least a (k ∷ ks)
unfolding first_least
more b a k ks e = ap (λ (c : Candidate _). first_least c ks) e

pub begins : {A : Type 0} (a k : Candidate A) (ks : List (Candidate A)) → a ≡ k → first_least a ks ≡ first_least k ks
begins a k ks e = ap (λ (c : Candidate _). first_least c ks) e

pub ends : {A : Type 0} (a : Candidate A) → a ≡ first_least a []
unfolding first_least
ends a = refl

-- what is below a limit, and what isn't
pub is_below : {A : Type 0} (n limit : ℕ) (a : A) → n < limit → Some a ≡ (if nat_lt n limit then Some a else None)
is_below n limit a lt = rw (lt-ltb n limit lt) refl

pub is_not_below : {A : Type 0} (n limit : ℕ) (a : A) → limit ≤ n → None ≡ (if nat_lt n limit then Some a else None)
is_not_below n limit a le = rw (le-ltb n limit le) refl

-- what an answer below a limit says
some_by : {A : Type 0} (n limit : ℕ) (a k : A) (o : Option A) → o ≡ Some k → o ≡ (if nat_lt n limit then Some a else None) → (n < limit) ⊎ (limit ≤ n) → (k ≡ a) × (n < limit)
some_by {A} n limit a k o is h (inl lt) = let e : Some k ≡ Some a = sym is ∙ (h ∙ rw (lt-ltb n limit lt) refl) in (ap (λ (p : Option A). unwrap_or p a) e, lt)
some_by n limit a k o is h (inr ge) = let e : Some k ≡ None = sym is ∙ (h ∙ rw (le-ltb n limit ge) refl) in absurd cc

pub some_below : {A : Type 0} (n limit : ℕ) (a k : A) (o : Option A) → o ≡ Some k → o ≡ (if nat_lt n limit then Some a else None) → (k ≡ a) × (n < limit)
some_below n limit a k o is h = some_by n limit a k o is h (cases_lt n limit)

none_by : {A : Type 0} (n limit : ℕ) (a : A) (o : Option A) → o ≡ None → o ≡ (if nat_lt n limit then Some a else None) → (n < limit) ⊎ (limit ≤ n) → limit ≤ n
none_by n limit a o is h (inl lt) = let e : None ≡ Some a = sym is ∙ (h ∙ rw (lt-ltb n limit lt) refl) in absurd cc
none_by n limit a o is h (inr ge) = ge

pub none_below : {A : Type 0} (n limit : ℕ) (a : A) (o : Option A) → o ≡ None → o ≡ (if nat_lt n limit then Some a else None) → limit ≤ n
none_below n limit a o is h = none_by n limit a o is h (cases_lt n limit)

-- a candidate whose sum is known only below the cost of the best so far
pub better_some : {A : Type 0} (best : Candidate A) (a : A) (k : ℕ) (wanted xs ys : List ℕ) (o : Option ℕ) → o ≡ Some k → o ≡ (if nat_lt (sad wanted xs) best.cost then Some (sad wanted xs) else None) → xs ≡ ys
    → candidate a k ≡ better best (candidate a (sad wanted ys))
better_some best a k wanted xs ys o is h same =
    let both = some_below (sad wanted xs) best.cost (sad wanted xs) k o is h in
    let cost : sad wanted xs ≡ sad wanted ys = ap (λ (zs : List ℕ). sad wanted zs) same in
    ap (λ (n : ℕ). candidate a n) (both.0 ∙ cost) ∙ takes best (candidate a (sad wanted ys)) (omega (arith, both.1, cost))

pub better_none : {A : Type 0} (best : Candidate A) (a : A) (wanted xs ys : List ℕ) (o : Option ℕ) → o ≡ None → o ≡ (if nat_lt (sad wanted xs) best.cost then Some (sad wanted xs) else None) → xs ≡ ys
    → best ≡ better best (candidate a (sad wanted ys))
better_none best a wanted xs ys o is h same =
    let le = none_below (sad wanted xs) best.cost (sad wanted xs) o is h in
    let cost : sad wanted xs ≡ sad wanted ys = ap (λ (zs : List ℕ). sad wanted zs) same in
    keeps best (candidate a (sad wanted ys)) (omega (arith, le, cost))

-- a candidate after all others
pub last : {A : Type 0} (a : Candidate A) (ks : List (Candidate A)) (p : Candidate A) → first_least a (ks ++ p ∷ []) ≡ better (first_least a ks) p
unfolding first_least
last a [] p = refl
last a (k ∷ ks) p = last (better a k) ks p
