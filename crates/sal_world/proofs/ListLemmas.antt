-- Members of lists.
use Rattle.std.proofs.Common.{◌≡◌, ℕ, zero, suc, ◌<◌, List, [], ◌∷◌, ◌++◌, length, map, Option, Some, None, refl, ap, sym, ◌∙◌, subst, arith, length-append, ◌⊎◌, inl, inr}
use Rattle.std.specs.List.{filter_map, cons_option}
use Rattle.std.specs.Option.{option_map}
use Rattle.std.specs.Prelude.{slice_get}
use Rattle.sal_base.specs.Lists.{Has, Each}
use Rattle.sal_wire.specs.Fragmentation.{below}

pub some_same : {X : Type 0} (a b : X) → Some a ≡ Some b → a ≡ b
some_same a b e = cc

-- one of several that each meet P meets it
pub each_has : {X : Type 0} (P : X → Type 0) (xs : List X) (x : X) → Each P xs → Has xs x → P x
each_has P [] x each has = absurd has
each_has P (y ∷ ys) x each (inl h) = subst P (sym h) each.0
each_has P (y ∷ ys) x each (inr h) = each_has P ys x each.1 h

pub each_map : {X : Type 0} (P Q : X → Type 0) → ((x : X) → P x → Q x) → (xs : List X) → Each P xs → Each Q xs
each_map P Q f [] each = tt
each_map P Q f (x ∷ xs) each = (f x each.0, each_map P Q f xs each.1)

pub each_of : {X : Type 0} (P : X → Type 0) (xs : List X) → ((x : X) → Has xs x → P x) → Each P xs
each_of P [] f = tt
each_of P (x ∷ xs) f = (f x (inl refl), each_of P xs (λ y has. f y (inr has)))

pub has_either : {X : Type 0} (xs ys : List X) (x : X) → Has (xs ++ ys) x → Has xs x ⊎ Has ys x
has_either [] ys x h = inr h
has_either (y ∷ xs) ys x (inl h) = inl (inl h)
has_either (y ∷ xs) ys x (inr h) = elim (has_either xs ys x h) [ inl a ↦ inl (inr a) | inr b ↦ inr b ]

pub has_left : {X : Type 0} (xs ys : List X) (x : X) → Has xs x → Has (xs ++ ys) x
has_left [] ys x h = absurd h
has_left (y ∷ xs) ys x (inl h) = inl h
has_left (y ∷ xs) ys x (inr h) = inr (has_left xs ys x h)

pub has_right : {X : Type 0} (xs ys : List X) (x : X) → Has ys x → Has (xs ++ ys) x
has_right [] ys x h = h
has_right (y ∷ xs) ys x h = inr (has_right xs ys x h)

pub each_append : {X : Type 0} (P : X → Type 0) (xs ys : List X) → Each P xs → Each P ys → Each P (xs ++ ys)
each_append P [] ys a b = b
each_append P (x ∷ xs) ys a b = (a.0, each_append P xs ys a.1 b)

-- what is a member of a list of values is the value of a member
pub has_mapped : {X Y : Type 0} (f : X → Y) (xs : List X) (y : Y) → Has (map f xs) y → (x : X) × Has xs x × (y ≡ f x)
has_mapped f [] y h = absurd h
has_mapped f (x ∷ xs) y (inl h) = (x, inl refl, h)
has_mapped f (x ∷ xs) y (inr h) = let m = has_mapped f xs y h in (m.0, inr m.1, m.2)

pub has_source : {X Y : Type 0} (f : X → Option Y) (xs : List X) (y : Y) → Has (filter_map f xs) y → (x : X) × Has xs x × (f x ≡ Some y)
has_source f [] y h = absurd h
has_source {X} {Y} f (x ∷ xs) y h = go (f x) refl h (has_source f xs y)
  where
    go : (o : Option Y) → f x ≡ o → Has (cons_option o (filter_map f xs)) y → (Has (filter_map f xs) y → (z : X) × Has xs z × (f z ≡ Some y)) → (z : X) × Has (x ∷ xs) z × (f z ≡ Some y)
    go None e h more = let m = more h in (m.0, inr m.1, m.2)
    go (Some z) e (inl q) more = (x, inl refl, e ∙ ap (λ w. Some w) (sym q))
    go (Some z) e (inr r) more = let m = more r in (m.0, inr m.1, m.2)

pub mapped : {X Y : Type 0} (f : X → Y) (o : Option X) (y : Y) → option_map f o ≡ Some y → (x : X) × (f x ≡ y)
mapped f None y h = absurd (cc)
mapped f (Some x) y h = (x, cc)

-- a member by its place is a member
pub got_has : {X : Type 0} (xs : List X) (k : ℕ) (x : X) → slice_get xs k ≡ Some x → Has xs x
got_has [] k x h = absurd (cc)
got_has (y ∷ ys) zero x h = inl (cc)
got_has (y ∷ ys) (suc k) x h = inr (got_has ys k x h)

pub length_below : (n : ℕ) → length (below n) ≡ n
unfolding below
length_below zero = refl
length_below (suc n) = let all = length-append (below n) (n ∷ []) in let rest = length_below n in omega arith

last_below : (n k : ℕ) → Has (n ∷ []) k → k < suc n
last_below n k (inl e) = omega arith
last_below n k (inr h) = absurd h

pub below_has : (n k : ℕ) → Has (below n) k → k < n
unfolding below
below_has zero k h = absurd h
below_has (suc n) k h = elim (has_either (below n) (n ∷ []) k h) [
  | inl a ↦ (let p : k < n = below_has n k a in omega arith)
  | inr b ↦ last_below n k b
]
