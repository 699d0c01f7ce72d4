-- Pictures that are started.
use Rattle.std.proofs.Common.{◌≡◌, ℕ, ◌+◌, ◌<◌, ◌≤◌, ◌^◌, Bool, true, false, cond, List, [], ◌∷◌, Option, Some, None, refl, sym, subst, arith, eqb}
use Rattle.std.specs.List.{find}
use Rattle.std.specs.Option.{option_map}
use Rattle.sal_base.specs.Lists.{Each}
use Rattle.sal_base.specs.declared.name.Name.{Name}
use Rattle.sal_base.specs.declared.picture.Picture.{Picture}
use Rattle.sal_base.specs.declared.coding.Kind.TheVariants.{Inter}
use Rattle.sal_y4m.specs.declared.head.Head.{Head}
use Rattle.sal_codec.specs.Coding.{Coding, MayEncode, HasSides}
use Rattle.sal_chain.specs.declared.stored_state.StoredState.{StoredState}
use Rattle.sal_chain.specs.Held.{with_number}
use Rattle.sal_chain.specs.Shares.{name_and_state}
use Rattle.sal_chain.specs.Held.{name_in}
use Rattle.sal_sender.specs.Machine.{Machine, IsOwnState, IsWell}

-- the numbers of the next jobs fit
pub first_fits : {S : Type 0} (codec : Coding S) (m : Machine S) → IsWell codec m → m.last_job + 1 + 2 < 2 ^ 32
first_fits codec m w = omega (arith, w.jobs, w.pictures)

find_each : {X : Type 0} (P : X → Type 0) (p : X → Bool) (xs : List X) (x : X) → Each P xs → find p xs ≡ Some x → P x
find_each P p [] x e h = absurd (cc)
find_each {X} P p (y ∷ ys) x e h = go (p y) h (find_each P p ys x e.1)
  where
    go : (b : Bool) → cond b (Some y) (find p ys) ≡ Some x → (find p ys ≡ Some x → P x) → P x
    go true q more = let s : y ≡ x = cc in subst P s e.0
    go false q more = more q

-- what is found under a number is the session's own
pub own_of : {S : Type 0} (codec : Coding S) (head : Head) (kept : List (StoredState S)) (n : ℕ) (x : Name × S) → Each (IsOwnState codec head) kept → Some x ≡ option_map name_and_state (with_number n kept) → codec.takes x.1 head.width head.height × (x.0.0 ≡ name_in codec x.1)
own_of {S} codec head kept n x each h = go (with_number n kept) refl h
  where
    go : (o : Option (StoredState S)) → with_number n kept ≡ o → Some x ≡ option_map name_and_state o → codec.takes x.1 head.width head.height × (x.0.0 ≡ name_in codec x.1)
    go None e q = absurd (cc)
    go (Some k) e q =
        let own : IsOwnState codec head k = find_each (IsOwnState codec head) (λ (y : StoredState S). eqb y.number n) kept k each e in
        let same : x ≡ name_and_state k = cc in
        subst (λ (y : Name × S). codec.takes y.1 head.width head.height × (y.0.0 ≡ name_in codec y.1)) (sym same) (own.size, own.name)

-- a picture of the session's size may be encoded from a state that takes it
pub may_encode : {S : Type 0} (codec : Coding S) (head : Head) (s : S) (p : Picture) (q : ℕ) → HasSides head.width head.height p → q ≤ 127 → codec.takes s head.width head.height → MayEncode codec s p q Inter
may_encode codec head s p q sides low takes = record {
  picture = sides.whole;
  quantiser = low;
  size = λ h. subst (λ w. codec.takes s w p.height) (sym sides.width) (subst (λ v. codec.takes s head.width v) (sym sides.height) takes);
}

pub may_job : {S : Type 0} (codec : Coding S) (inside head : Head) (s t : S) (p r : Picture) (q : ℕ) → inside ≡ head → HasSides head.width head.height p → q ≤ 127 → codec.takes s inside.width inside.height → t ≡ s → r ≡ p → MayEncode codec t r q Inter
may_job codec inside head s t p r q view sides low takes a b =
    let there : codec.takes s head.width head.height = subst (λ h. codec.takes s h.width h.height) view takes in
    subst (λ x. MayEncode codec x r q Inter) (sym a) (subst (λ x. MayEncode codec s x q Inter) (sym b) (may_encode codec head s p q sides low there))
