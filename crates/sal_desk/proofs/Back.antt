-- How a caller shows that every seat came back.
use Rattle.std.proofs.Common.{◌≡◌, ◌<◌, ℕ, List, [], ◌∷◌, sym, subst, inl, inr, arith}
use Rattle.sal_desk.specs.declared.view.Own.{Own}
use Rattle.sal_desk.specs.Histories.{Each}
use Rattle.sal_desk.specs.Seats.{IsNamed, AllBack}

module _ {E : Type 0} where
  no_splits : (all : List (Own E)) (joined : List (Own E)) → Each (λ (o : Own E). o.splits ≡ 0) joined → Each (λ (o : Own E). (k : ℕ) → k < o.splits → IsNamed (k ∷ o.name) all) joined
  no_splits all [] none_split = tt
  no_splits all (o ∷ os) none_split = (λ k lt. let zero_is = none_split.0 in absurd (omega (arith, lt, zero_is)), no_splits all os none_split.1)

  -- the first seat, into which all that were split off it were joined, off which none was split
  pub back_of_children : (own : Own E) (joined : List (Own E)) → own.name ≡ [] → Each (λ (o : Own E). o.splits ≡ 0) joined → ((k : ℕ) → k < own.splits → IsNamed (k ∷ []) joined) → AllBack (own ∷ joined)
  back_of_children own joined first_is none_split children = record {
    first = inl first_is;
    split = (λ k lt. inr (subst (λ (n : List ℕ). IsNamed (k ∷ n) joined) (sym first_is) (children k lt)), no_splits (own ∷ joined) joined none_split);
  }

  -- the same with one seat
  pub back_of_one : (own other : Own E) (joined : List (Own E)) → own.name ≡ [] → own.splits ≡ 1 → other.name ≡ 0 ∷ [] → other.splits ≡ 0 → joined ≡ other ∷ [] → AllBack (own ∷ joined)
  back_of_one own other joined first_is one_split name_is none_split joined_are =
      subst (λ (l : List (Own E)). AllBack (own ∷ l)) (sym joined_are)
      (back_of_children own (other ∷ []) first_is (none_split, tt) (λ k lt. let zero_is : 0 ≡ k = omega (arith, lt, one_split) in inl (subst (λ (n : ℕ). other.name ≡ n ∷ []) zero_is name_is)))
