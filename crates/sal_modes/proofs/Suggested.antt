-- Where the suggested vectors come from, and where they lie.
use Rattle.std.proofs.Common.{ℕ, suc, zero, ◌+◌, ℤ, neg_ℤ, ◌≤ℤ◌, List, [], ◌∷◌, Bool, true, false, All, refl, arith, if◌then◌else◌, inl, inr, nat_le}
use Rattle.std.proofs.lemmas.Int.{ints, int_max_is, int_min_is}
use Rattle.std.specs.Int.{int_max}
use Rattle.std.proofs.lemmas.List.Elements.{All-set, All-replicate}
use Rattle.sal_macroblock.specs.declared.mode.MbMode.{MbMode}
use Rattle.sal_macroblock.specs.Macroblocks.{own_vector, is_intra}
use Rattle.sal_modes.specs.declared.around.Bias.{Bias}
use Rattle.sal_modes.specs.declared.around.Bounds.{Bounds}
use Rattle.sal_modes.specs.declared.near.Slots.{Slots}
use Rattle.sal_modes.specs.Vectors.{between}
use Rattle.sal_modes.specs.Near.{Motion, still, motion_of, equal, motion_at, no_slots, count, counted, next_filled, put_motion, bias_of, differ, negated, noted, joined, with_splits, ordered, best, clamped_to, near_of, IsSuggested, IsCutOff, AreOrdered, IsInBounds}

-- what holds of each slot's vector
Each : (Motion → Type 0) → Slots → Type 0
Each P s = All P s.motions

each_if : (P : Motion → Type 0) (b : Bool) (x y : Slots) → Each P x → Each P y → Each P (if b then x else y)
each_if P true x y p q = p
each_if P false x y p q = q

motion_if : (P : Motion → Type 0) (b : Bool) (x y : Motion) → P x → P y → P (if b then x else y)
motion_if P true x y p q = p
motion_if P false x y p q = q

at_each : (P : Motion → Type 0) → P still → (ms : List Motion) (k : ℕ) → All P ms → P (motion_at ms k)
at_each P z [] k h = z
at_each P z (m ∷ ms) zero h = h 0 still (omega arith)
at_each P z (m ∷ ms) (suc k) h = at_each P z ms k (λ j d lt. h (suc j) d (omega arith))

put_each : (P : Motion → Type 0) (v : Motion) (w : ℕ) (s : Slots) → P v → Each P s → Each P (put_motion v w s)
unfolding put_motion Each
put_each P v w s p h = each_if P _ (counted s.filled w s) (counted (s.filled + 1) w (next_filled v s)) h (All-set P s.motions (s.filled + 1) v p h)

noted_each : (P : Motion → Type 0) (b : Bias) (m : MbMode) (w : ℕ) (s : Slots) → P (motion_of (own_vector m)) → P (neg_ℤ (own_vector m).row, neg_ℤ (own_vector m).column) → Each P s → Each P (noted b m w s)
unfolding noted Each
noted_each P b m w s p q h =
    let v = motion_of (own_vector m) in
    each_if P (is_intra m.reference) s (if equal v still then counted 0 w s else put_motion (negated b m.reference v) w s) h
    (each_if P (equal v still) (counted 0 w s) (put_motion (negated b m.reference v) w s) h (put_each P (negated b m.reference v) w s (motion_if P (differ (bias_of b m.reference) b.own) (neg_ℤ v.0, neg_ℤ v.1) v q p) h))

joined_each : (P : Motion → Type 0) (s : Slots) → Each P s → Each P (joined s)
unfolding Each
joined_each P s h = each_if P _ (counted 1 1 s) s h h

ordered_each : (P : Motion → Type 0) (s : Slots) → P still → Each P s → Each P (ordered s)
unfolding Each
ordered_each P s z h =
    each_if P _ _ s
    (All-set P _ 2 (motion_at s.motions 1) (at_each P z s.motions 1 h) (All-set P s.motions 1 (motion_at s.motions 2) (at_each P z s.motions 2 h) h)) h

-- the slots from which the vectors are taken
abbrev slots_of : MbMode → MbMode → MbMode → Bias → Slots
slots_of above left corner b = ordered (with_splits above left corner (joined (noted b corner 1 (noted b left 2 (noted b above 2 no_slots)))))

suggested_each : (above left corner : MbMode) (b : Bias) → Each (IsSuggested above left corner) (slots_of above left corner b)
unfolding Each
suggested_each above left corner b =
    let P : Motion → Type 0 = IsSuggested above left corner in
    let z : P still = inl refl in
    let none : Each P no_slots = All-replicate P 4 still z in
    let one = noted_each P b above 2 no_slots (inr (inl (inl refl))) (inr (inl (inr refl))) none in
    let two = noted_each P b left 2 (noted b above 2 no_slots) (inr (inr (inl (inl refl)))) (inr (inr (inl (inr refl)))) one in
    let three = noted_each P b corner 1 (noted b left 2 (noted b above 2 no_slots)) (inr (inr (inr (inl refl)))) (inr (inr (inr (inr refl)))) two in
    ordered_each P (with_splits above left corner (joined (noted b corner 1 (noted b left 2 (noted b above 2 no_slots))))) z (joined_each P (noted b corner 1 (noted b left 2 (noted b above 2 no_slots))) three)

pub best_cut_off : (above left corner : MbMode) (b : Bias) (bounds : Bounds) → IsCutOff above left corner bounds (near_of above left corner b bounds).best
unfolding near_of Each
best_cut_off above left corner b bounds =
    let s = slots_of above left corner b in
    let P : Motion → Type 0 = IsSuggested above left corner in
    (best s, (motion_if P (nat_le (count s 0) (count s 1)) (motion_at s.motions 1) still (at_each P (inl refl) s.motions 1 (suggested_each above left corner b)) (inl refl), refl))

pub nearest_cut_off : (above left corner : MbMode) (b : Bias) (bounds : Bounds) → IsCutOff above left corner bounds (near_of above left corner b bounds).nearest
unfolding near_of Each
nearest_cut_off above left corner b bounds =
    let s = slots_of above left corner b in
    (motion_at s.motions 1, (at_each (IsSuggested above left corner) (inl refl) s.motions 1 (suggested_each above left corner b), refl))

pub near_cut_off : (above left corner : MbMode) (b : Bias) (bounds : Bounds) → IsCutOff above left corner bounds (near_of above left corner b bounds).near
unfolding near_of Each
near_cut_off above left corner b bounds =
    let s = slots_of above left corner b in
    (motion_at s.motions 2, (at_each (IsSuggested above left corner) (inl refl) s.motions 2 (suggested_each above left corner b), refl))

low_between : (low high x : ℤ) → low ≤ℤ high → low ≤ℤ between low high x
low_between low high x le =
    let a = int_max_is low x in
    let b = int_min_is high (int_max low x) in
    omega (arith, ints, a, b)

between_high : (low high x : ℤ) → between low high x ≤ℤ high
between_high low high x =
    let b = int_min_is high (int_max low x) in
    omega (arith, ints, b)

clamped_inside : (b : Bounds) (m : Motion) → AreOrdered b → IsInBounds b (clamped_to b m)
clamped_inside b m h =
    record {
      least_row = low_between b.least.row b.greatest.row m.0 h.rows;
      greatest_row = between_high b.least.row b.greatest.row m.0;
      least_column = low_between b.least.column b.greatest.column m.1 h.columns;
      greatest_column = between_high b.least.column b.greatest.column m.1;
    }

pub best_inside : (above left corner : MbMode) (b : Bias) (bounds : Bounds) → AreOrdered bounds → IsInBounds bounds (near_of above left corner b bounds).best
unfolding near_of
best_inside above left corner b bounds h = clamped_inside bounds (best (slots_of above left corner b)) h

pub nearest_inside : (above left corner : MbMode) (b : Bias) (bounds : Bounds) → AreOrdered bounds → IsInBounds bounds (near_of above left corner b bounds).nearest
unfolding near_of
nearest_inside above left corner b bounds h = clamped_inside bounds (motion_at (slots_of above left corner b).motions 1) h

pub near_inside : (above left corner : MbMode) (b : Bias) (bounds : Bounds) → AreOrdered bounds → IsInBounds bounds (near_of above left corner b bounds).near
unfolding near_of
near_inside above left corner b bounds h = clamped_inside bounds (motion_at (slots_of above left corner b).motions 2) h
