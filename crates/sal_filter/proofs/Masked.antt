-- The filters without branches: where nothing moves, each adjustment is 0.
use Rattle.std.proofs.Common.{◌≡◌, ◌∙◌, ap, refl, arith, ℤ, pos, ◌+ℤ◌, ◌-ℤ◌, ◌*ℤ◌, Bool, true, false, cond}
use Rattle.std.proofs.lemmas.Int.{ints, clamps}
use Rattle.sal_macroblock.specs.Sizes.{Within}
use Rattle.sal_filter.specs.declared.across.Across.{Across}
use Rattle.sal_filter.specs.Edges.{AreSigned, IsSigned, signed_clamp, q0_adjustment, p0_adjustment, q1_adjustment, part, inner, outer}
use Rattle.sal_filter.proofs.Signed.{equal, held, as_passed}

pub none_small : Within 128 (pos 0)
none_small = (omega (arith, ints), omega (arith, ints))

choices_same : (b : Bool) (x y x' y' : ℤ) → x ≡ x' → y ≡ y' → cond b x y ≡ cond b x' y'
choices_same b x y x' y' e f = ap (λ (k : ℤ). cond b k y) e ∙ ap (λ (k : ℤ). cond b x' k) f

-- the choice of one of two passed values
pub choose_to : (z : ℤ) (b : Bool) (x y x' y' : ℤ) → z ≡ cond b (as_passed x) (as_passed y) → Within 128 x → Within 128 y → x ≡ x' → y ≡ y' → z ≡ cond b x' y'
choose_to z b x y x' y' e hx hy ex ey = e ∙ choices_same b (as_passed x) (as_passed y) x' y' (held x x' ex hx) (held y y' ey hy)

stay_up : (x : ℤ) → IsSigned x → signed_clamp (x +ℤ pos 0) ≡ x
stay_up x h = omega (arith, ints, clamps, h)

stay_down : (x : ℤ) → IsSigned x → signed_clamp (x -ℤ pos 0) ≡ x
stay_down x h = omega (arith, ints, clamps, h)

unfoldable pub inner_adjustment : Bool → Bool → Across → ℤ
inner_adjustment f t a = cond f (signed_clamp (cond t (signed_clamp (a.p1 -ℤ a.q1)) (pos 0) +ℤ pos 3 *ℤ (a.q0 -ℤ a.p0))) (pos 0)

pub inner_masked : (f t : Bool) (a : Across) → AreSigned a → (let w = inner_adjustment f t a in let m : Across = record {
  p3 = a.p3;
  p2 = a.p2;
  p1 = signed_clamp (a.p1 +ℤ cond t (pos 0) (q1_adjustment w));
  p0 = signed_clamp (a.p0 +ℤ p0_adjustment w);
  q0 = signed_clamp (a.q0 -ℤ q0_adjustment w);
  q1 = signed_clamp (a.q1 -ℤ cond t (pos 0) (q1_adjustment w));
  q2 = a.q2;
  q3 = a.q3;
} in m) ≡ cond f (inner t a) a
unfolding inner_adjustment inner p0_adjustment q0_adjustment q1_adjustment
inner_masked true true a h = equal _ _ _ _ _ _ _ _ _ _ _ _ _ _ _ _ refl refl (stay_up a.p1 h.p1) refl refl (stay_down a.q1 h.q1) refl refl
inner_masked true false a h = refl
inner_masked false true a h = equal _ _ _ _ _ _ _ _ _ _ _ _ _ _ _ _ refl refl (stay_up a.p1 h.p1) (stay_up a.p0 h.p0) (stay_down a.q0 h.q0) (stay_down a.q1 h.q1) refl refl
inner_masked false false a h = equal _ _ _ _ _ _ _ _ _ _ _ _ _ _ _ _ refl refl (stay_up a.p1 h.p1) (stay_up a.p0 h.p0) (stay_down a.q0 h.q0) (stay_down a.q1 h.q1) refl refl

unfoldable pub outer_adjustment : Bool → Across → ℤ
outer_adjustment f a = cond f (signed_clamp (signed_clamp (a.p1 -ℤ a.q1) +ℤ pos 3 *ℤ (a.q0 -ℤ a.p0))) (pos 0)

pub outer_masked : (f t : Bool) (a : Across) → AreSigned a → (let w = outer_adjustment f a in let m : Across = record {
  p3 = a.p3;
  p2 = signed_clamp (a.p2 +ℤ cond t (pos 0) (part 9 w));
  p1 = signed_clamp (a.p1 +ℤ cond t (pos 0) (part 18 w));
  p0 = signed_clamp (a.p0 +ℤ cond t (p0_adjustment w) (part 27 w));
  q0 = signed_clamp (a.q0 -ℤ cond t (q0_adjustment w) (part 27 w));
  q1 = signed_clamp (a.q1 -ℤ cond t (pos 0) (part 18 w));
  q2 = signed_clamp (a.q2 -ℤ cond t (pos 0) (part 9 w));
  q3 = a.q3;
} in m) ≡ cond f (outer t a) a
unfolding outer_adjustment outer p0_adjustment q0_adjustment part
outer_masked true true a h = equal _ _ _ _ _ _ _ _ _ _ _ _ _ _ _ _ refl (stay_up a.p2 h.p2) (stay_up a.p1 h.p1) refl refl (stay_down a.q1 h.q1) (stay_down a.q2 h.q2) refl
outer_masked true false a h = refl
outer_masked false true a h = equal _ _ _ _ _ _ _ _ _ _ _ _ _ _ _ _ refl (stay_up a.p2 h.p2) (stay_up a.p1 h.p1) (stay_up a.p0 h.p0) (stay_down a.q0 h.q0) (stay_down a.q1 h.q1) (stay_down a.q2 h.q2) refl
outer_masked false false a h = equal _ _ _ _ _ _ _ _ _ _ _ _ _ _ _ _ refl (stay_up a.p2 h.p2) (stay_up a.p1 h.p1) (stay_up a.p0 h.p0) (stay_down a.q0 h.q0) (stay_down a.q1 h.q1) (stay_down a.q2 h.q2) refl
