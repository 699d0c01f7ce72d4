-- The counts of near vectors are at most 5, so that each names a row of probabilities.
use Rattle.std.proofs.Common.{◌≡◌, ℕ, suc, zero, ◌+◌, ◌≤◌, ◌<◌, ◌==◌, ◌&&◌, List, [], ◌∷◌, Bool, true, false, if◌then◌else◌, All, get_or, set, slice_set, nat_lt, lit≤, refl, sym, ap, arith, subst}
use Rattle.std.proofs.lemmas.Bool.{eqb-true}
use Rattle.std.proofs.lemmas.List.Elements.{All-replicate}
use Rattle.sal_macroblock.specs.declared.mode.MbMode.{MbMode}
use Rattle.sal_macroblock.specs.Macroblocks.{is_split}
use Rattle.sal_modes.specs.declared.around.Bias.{Bias}
use Rattle.sal_modes.specs.declared.around.Bounds.{Bounds}
use Rattle.sal_modes.specs.declared.around.Near.{Near}
use Rattle.sal_modes.specs.declared.near.Slots.{Slots}
use Rattle.sal_modes.specs.Near.{Motion, count, equal, motion_at, no_slots, counted, put_motion, noted, joined, split_weight, with_splits, ordered, near_of}
use Rattle.sal_modes.proofs.NearLemmas.{IsSmall, noted_small}

-- four counts that add up to n at most; where slot 3 is filled it counts
pub record AddUp (n filled : ℕ) (cs : List ℕ) : Type 0 where
  pub a : ℕ
  pub b : ℕ
  pub c : ℕ
  pub d : ℕ
  pub is : cs ≡ a ∷ b ∷ c ∷ d ∷ []
  pub sum : a + b + c + d ≤ n
  pub third : 3 ≤ filled → 1 ≤ d

pub record AddsUp (n : ℕ) (s : Slots) : Type 0 where
  pub adds : AddUp n s.filled s.counts

abbrev raised : List ℕ → ℕ → ℕ → List ℕ
raised cs k w = set cs k (get_or cs k 0 + w)

add_same : (n t k w : ℕ) (cs : List ℕ) → k ≤ 3 → AddUp n t cs → AddUp (n + w) t (raised cs k w)
add_same n t zero w cs le h = let s = h.sum in record { a = h.a + w; b = h.b; c = h.c; d = h.d; is = ap (λ (xs : List ℕ). raised xs 0 w) h.is; sum = omega (arith, s); third = h.third }
add_same n t (suc zero) w cs le h = let s = h.sum in record { a = h.a; b = h.b + w; c = h.c; d = h.d; is = ap (λ (xs : List ℕ). raised xs 1 w) h.is; sum = omega (arith, s); third = h.third }
add_same n t (suc (suc zero)) w cs le h = let s = h.sum in record { a = h.a; b = h.b; c = h.c + w; d = h.d; is = ap (λ (xs : List ℕ). raised xs 2 w) h.is; sum = omega (arith, s); third = h.third }
add_same n t (suc (suc (suc zero))) w cs le h =
    let s = h.sum in
    record { a = h.a; b = h.b; c = h.c; d = h.d + w; is = ap (λ (xs : List ℕ). raised xs 3 w) h.is; sum = omega (arith, s); third = λ f. let e = h.third f in omega (arith, e) }
add_same n t (suc (suc (suc (suc k)))) w cs le h = absurd (omega arith)

add_next : (n t k w : ℕ) (cs : List ℕ) → k ≤ 3 → 1 ≤ w → AddUp n t cs → AddUp (n + w) k (raised cs k w)
add_next n t zero w cs le one h = let s = h.sum in record { a = h.a + w; b = h.b; c = h.c; d = h.d; is = ap (λ (xs : List ℕ). raised xs 0 w) h.is; sum = omega (arith, s); third = λ f. absurd (omega arith) }
add_next n t (suc zero) w cs le one h = let s = h.sum in record { a = h.a; b = h.b + w; c = h.c; d = h.d; is = ap (λ (xs : List ℕ). raised xs 1 w) h.is; sum = omega (arith, s); third = λ f. absurd (omega arith) }
add_next n t (suc (suc zero)) w cs le one h = let s = h.sum in record { a = h.a; b = h.b; c = h.c + w; d = h.d; is = ap (λ (xs : List ℕ). raised xs 2 w) h.is; sum = omega (arith, s); third = λ f. absurd (omega arith) }
add_next n t (suc (suc (suc zero))) w cs le one h =
    let s = h.sum in
    record { a = h.a; b = h.b; c = h.c; d = h.d + w; is = ap (λ (xs : List ℕ). raised xs 3 w) h.is; sum = omega (arith, s); third = λ f. omega arith }
add_next n t (suc (suc (suc (suc k)))) w cs le one h = absurd (omega arith)

either_adds : (n : ℕ) (b : Bool) (x y : Slots) → AddsUp n x → AddsUp n y → AddsUp n (if b then x else y)
either_adds n true x y p q = p
either_adds n false x y p q = q

more : (n w t : ℕ) (cs : List ℕ) → AddUp n t cs → AddUp (n + w) t cs
more n w t cs h = let s = h.sum in record { a = h.a; b = h.b; c = h.c; d = h.d; is = h.is; sum = omega (arith, s); third = h.third }

put_adds : (v : Motion) (w n : ℕ) (s : Slots) → 1 ≤ w → s.filled ≤ 2 → AddsUp n s → AddsUp (n + w) (put_motion v w s)
unfolding put_motion
put_adds v w n s one le h =
    either_adds (n + w) _ _ _ (record { adds = add_same n s.filled s.filled w s.counts (omega (arith, le)) h.adds }) (record { adds = add_next n s.filled (s.filled + 1) w s.counts (omega (arith, le)) one h.adds })

noted_adds : (b : Bias) (m : MbMode) (w n : ℕ) (s : Slots) → 1 ≤ w → s.filled ≤ 2 → AddsUp n s → AddsUp (n + w) (noted b m w s)
unfolding noted
noted_adds b m w n s one le h =
    let same : AddsUp (n + w) s = record { adds = more n w s.filled s.counts h.adds } in
    let zero_counted : AddsUp (n + w) (counted 0 w s) = record { adds = add_same n s.filled 0 w s.counts (omega arith) h.adds } in
    either_adds (n + w) _ _ _ same (either_adds (n + w) _ _ _ zero_counted (put_adds _ w n s one le h))

-- four counts of at most 5
pub record AreFives (xs : List ℕ) : Type 0 where
  pub a : ℕ
  pub b : ℕ
  pub c : ℕ
  pub d : ℕ
  pub is : xs ≡ a ∷ b ∷ c ∷ d ∷ []
  pub a_small : a ≤ 5
  pub b_small : b ≤ 5
  pub c_small : c ≤ 5
  pub d_small : d ≤ 5

-- with every count at most 5
abbrev HasFives : Slots → Type 0
HasFives s = AreFives s.counts

both : (a b : Bool) → (a && b) ≡ true → a ≡ true
both true b h = refl
both false b h = cc

joined_fives : (s : Slots) → AddsUp 5 s → HasFives (joined s)
joined_fives s it = by_test (s.filled == 3 && equal (motion_at s.motions 3) (motion_at s.motions 1)) refl
  where
    h : AddUp 5 s.filled s.counts
    h = it.adds

    by_test : (t : Bool) → (s.filled == 3 && equal (motion_at s.motions 3) (motion_at s.motions 1)) ≡ t → HasFives (if t then counted 1 1 s else s)
    by_test true e =
        let three : s.filled ≡ 3 = eqb-true s.filled 3 (both (s.filled == 3) _ e) in
        let third : 1 ≤ h.d = h.third (omega (arith, three)) in
        let sum = h.sum in
        record { a = h.a; b = h.b + 1; c = h.c; d = h.d; is = ap (λ (xs : List ℕ). raised xs 1 1) h.is; a_small = omega (arith, sum); b_small = omega (arith, sum, third); c_small = omega (arith, sum); d_small = omega (arith, sum) }
    by_test false e =
        let sum = h.sum in
        record { a = h.a; b = h.b; c = h.c; d = h.d; is = h.is; a_small = omega (arith, sum); b_small = omega (arith, sum); c_small = omega (arith, sum); d_small = omega (arith, sum) }

weight_small : (b : Bool) (w : ℕ) → (if b then w else 0) ≤ w
weight_small true w = omega arith
weight_small false w = omega arith

splits_fives : (above left corner : MbMode) (s : Slots) → HasFives s → HasFives (with_splits above left corner s)
splits_fives above left corner s h =
    let p = weight_small (is_split above.y) 2 in
    let q = weight_small (is_split left.y) 2 in
    let r = weight_small (is_split corner.y) 1 in
    let w : ℕ = split_weight above 2 + split_weight left 2 + split_weight corner 1 in
    record { a = h.a; b = h.b; c = h.c; d = w; is = ap (λ (xs : List ℕ). set xs 3 w) h.is; a_small = h.a_small; b_small = h.b_small; c_small = h.c_small; d_small = omega (arith, p, q, r) }

ordered_fives : (s : Slots) → HasFives s → HasFives (ordered s)
ordered_fives s h = by_test (nat_lt (count s 1) (count s 2))
  where
    by_test : (t : Bool) → HasFives (if t then record s { motions = slice_set (slice_set s.motions 1 (motion_at s.motions 2)) 2 (motion_at s.motions 1); counts = slice_set (slice_set s.counts 1 (count s 2)) 2 (count s 1) } else s)
    by_test true = record { a = h.a; b = h.c; c = h.b; d = h.d; is = ap (λ (xs : List ℕ). set (set xs 1 (get_or xs 2 0)) 2 (get_or xs 1 0)) h.is; a_small = h.a_small; b_small = h.c_small; c_small = h.b_small; d_small = h.d_small }
    by_test false = h

each_five : (a b c d k x : ℕ) → a ≤ 5 → b ≤ 5 → c ≤ 5 → d ≤ 5 → k < 4 → get_or (a ∷ b ∷ c ∷ d ∷ []) k x ≤ 5
each_five a b c d zero x ha hb hc hd lt = ha
each_five a b c d (suc zero) x ha hb hc hd lt = hb
each_five a b c d (suc (suc zero)) x ha hb hc hd lt = hc
each_five a b c d (suc (suc (suc zero))) x ha hb hc hd lt = hd
each_five a b c d (suc (suc (suc (suc k)))) x ha hb hc hd lt = absurd (omega arith)

all_five : (xs : List ℕ) → AreFives xs → All (λ n. n ≤ 5) xs
all_five xs h =
    let P : List ℕ → Type 0 = λ ys. All (λ n. n ≤ 5) ys in
    subst P (sym h.is) (λ k x lt. each_five h.a h.b h.c h.d k x h.a_small h.b_small h.c_small h.d_small lt)

none_add : AddsUp 0 no_slots
none_add = record { adds = record { a = 0; b = 0; c = 0; d = 0; is = refl; sum = omega arith; third = λ f. absurd (omega arith) } }

three_add : (above left corner : MbMode) (b : Bias) → AddsUp 5 (noted b corner 1 (noted b left 2 (noted b above 2 no_slots)))
three_add above left corner b =
    let one = noted_small b above 2 0 no_slots (omega arith) none_small in
    let two = noted_small b left 2 1 (noted b above 2 no_slots) (omega arith) one in
    let f = one.filled in
    let g = two.filled in
    noted_adds b corner 1 4 _ (omega arith) (omega (arith, g)) (noted_adds b left 2 2 _ (omega arith) (omega (arith, f)) (noted_adds b above 2 0 no_slots (omega arith) (omega arith) none_add))
  where
    none_small : IsSmall 0 no_slots
    none_small = record { filled = lit≤ tt; counts = All-replicate (λ c. c ≤ 0) 4 0 (lit≤ tt) }

-- all four counts
pub counts_small : (above left corner : MbMode) (b : Bias) (bounds : Bounds) (n : Near) → n ≡ near_of above left corner b bounds → All (λ c. c ≤ 5) n.counts
unfolding near_of
counts_small above left corner b bounds n e =
    let P : Near → Type 0 = λ m. All (λ c. c ≤ 5) m.counts in
    let three : Slots = noted b corner 1 (noted b left 2 (noted b above 2 no_slots)) in
    subst P (sym e) (all_five _ (ordered_fives (with_splits above left corner (joined three)) (splits_fives above left corner (joined three) (joined_fives three (three_add above left corner b)))))
