-- The first of least cost is what its name says.
use Rattle.std.proofs.Common.{◌≡◌, ◌∙◌, suc, ◌<◌, ◌≤◌, ◌⊎◌, inl, inr, List, [], ◌∷◌, ◌++◌, refl, ap, arith, subst}
use Rattle.std.specs.Prelude.{All}
use Rattle.std.proofs.lemmas.Bool.{cases_lt, lt-ltb, le-ltb}
use Rattle.std.proofs.lemmas.List.Elements.{All-cons, All-nil}
use Rattle.sal_search.specs.Costs.{Candidate, better, first_least, IsFirstLeast}

abbrev CostsMore : {A : Type 0} → Candidate A → Candidate A → Type 0
CostsMore r d = r.cost < d.cost

abbrev CostsAsMuch : {A : Type 0} → Candidate A → Candidate A → Type 0
CostsAsMuch r d = r.cost ≤ d.cost

-- it costs at most what the first one costs
at_most_by : {A : Type 0} (a b r : Candidate A) → r.cost ≤ (better a b).cost → (b.cost < a.cost) ⊎ (a.cost ≤ b.cost) → r.cost ≤ a.cost
at_most_by a b r h (inl lt) = let e : (better a b).cost ≡ b.cost = rw (lt-ltb b.cost a.cost lt) refl in omega (arith, h, e, lt)
at_most_by a b r h (inr ge) = let e : (better a b).cost ≡ a.cost = rw (le-ltb b.cost a.cost ge) refl in omega (arith, h, e)

at_most : {A : Type 0} (a : Candidate A) (ks : List (Candidate A)) → (first_least a ks).cost ≤ a.cost
unfolding first_least
at_most a [] = omega arith
at_most a (b ∷ bs) = at_most_by a b (first_least (better a b) bs) (at_most (better a b) bs) (cases_lt b.cost a.cost)

-- the second of two takes the place of the first, which costs more
taken : {A : Type 0} (a b r : Candidate A) (bs : List (Candidate A)) → r.cost < a.cost → IsFirstLeast (b ∷ bs) r → IsFirstLeast (a ∷ b ∷ bs) r
taken a b r bs lt f = record {
  before = a ∷ f.before;
  after = f.after;
  stands = ap (λ (xs : List (Candidate _)). a ∷ xs) f.stands;
  first = All-cons (CostsMore r) a f.before lt f.first;
  least = f.least;
}

-- the first of two keeps its place, and the second, which costs as much or more, comes after it
kept : {A : Type 0} (a b r : Candidate A) (bs before after : List (Candidate A)) → a.cost ≤ b.cost → a ∷ bs ≡ before ++ r ∷ after
    → All (λ (d : Candidate A). r.cost < d.cost) before → All (λ (d : Candidate A). r.cost ≤ d.cost) after → IsFirstLeast (a ∷ b ∷ bs) r
kept {A} a b r bs [] after le e f l =
    let head : a ≡ r = cc in
    let tail : bs ≡ after = cc in
    let more : r.cost ≤ b.cost = omega (arith, le, ap (λ (c : Candidate A). c.cost) head) in
    record {
      before = [];
      after = b ∷ after;
      stands = ap (λ (c : Candidate A). c ∷ b ∷ bs) head ∙ ap (λ (xs : List (Candidate A)). r ∷ b ∷ xs) tail;
      first = All-nil _;
      least = All-cons (CostsAsMuch r) b after more l;
    }
kept {A} a b r bs (x ∷ before) after le e f l =
    let head : a ≡ x = cc in
    let tail : bs ≡ before ++ r ∷ after = cc in
    let less : r.cost < x.cost = f 0 x (omega arith) in
    let more : r.cost < b.cost = omega (arith, le, less, ap (λ (c : Candidate A). c.cost) head) in
    record {
      before = x ∷ b ∷ before;
      after = after;
      stands = ap (λ (c : Candidate A). c ∷ b ∷ bs) head ∙ ap (λ (xs : List (Candidate A)). x ∷ b ∷ xs) tail;
      first = All-cons (CostsMore r) x (b ∷ before) less (All-cons (CostsMore r) b before more (λ k d lt. f (suc k) d (omega (arith, lt))));
      least = l;
    }

is_first_by : {A : Type 0} (a b : Candidate A) (bs : List (Candidate A)) → IsFirstLeast (better a b ∷ bs) (first_least (better a b) bs) → (b.cost < a.cost) ⊎ (a.cost ≤ b.cost)
    → IsFirstLeast (a ∷ b ∷ bs) (first_least (better a b) bs)
is_first_by {A} a b bs h (inl lt) =
    let e : better a b ≡ b = rw (lt-ltb b.cost a.cost lt) refl in
    let r = first_least (better a b) bs in
    let P : Candidate A → Type 0 = λ c. IsFirstLeast (c ∷ bs) r in
    let below = at_most (better a b) bs in
    taken a b r bs (omega (arith, lt, below, ap (λ (c : Candidate A). c.cost) e)) (subst P e h)
is_first_by {A} a b bs h (inr ge) =
    let e : better a b ≡ a = rw (le-ltb b.cost a.cost ge) refl in
    let r = first_least (better a b) bs in
    let P : Candidate A → Type 0 = λ c. IsFirstLeast (c ∷ bs) r in
    let f = subst P e h in
    kept a b r bs f.before f.after ge f.stands f.first f.least

pub is_first : {A : Type 0} (a : Candidate A) (ks : List (Candidate A)) → IsFirstLeast (a ∷ ks) (first_least a ks)
unfolding first_least
is_first a [] = record { before = []; after = []; stands = refl; first = All-nil _; least = All-nil _ }
is_first a (b ∷ bs) = is_first_by a b bs (is_first (better a b) bs) (cases_lt b.cost a.cost)
