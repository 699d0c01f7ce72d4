-- Signed bytes in 16 bits.
use Rattle.std.proofs.Common.{◌≡◌, ◌∙◌, ap, refl, arith, ℤ, pos, to_z, of_z, w16, ◌-ℤ◌, ◌+ℤ◌, ◌*ℤ◌}
use Rattle.std.proofs.lemmas.Int.{ints}
use Rattle.std.specs.Int.{int_shr}
use Rattle.sal_filter.specs.declared.across.Across.{Across}
use Rattle.sal_macroblock.specs.Sizes.{Within}
use Rattle.sal_filter.specs.Edges.{AreSigned, signed_clamp}

-- all eight samples are at most 128 in size
pub record AreSmall (a : Across) : Type 0 where
  pub p3 : Within 128 a.p3
  pub p2 : Within 128 a.p2
  pub p1 : Within 128 a.p1
  pub p0 : Within 128 a.p0
  pub q0 : Within 128 a.q0
  pub q1 : Within 128 a.q1
  pub q2 : Within 128 a.q2
  pub q3 : Within 128 a.q3

pub small_of : (a : Across) → AreSigned a → AreSmall a
small_of a h = record {
  p3 = (omega (arith, ints, h.p3), omega (arith, ints, h.p3));
  p2 = (omega (arith, ints, h.p2), omega (arith, ints, h.p2));
  p1 = (omega (arith, ints, h.p1), omega (arith, ints, h.p1));
  p0 = (omega (arith, ints, h.p0), omega (arith, ints, h.p0));
  q0 = (omega (arith, ints, h.q0), omega (arith, ints, h.q0));
  q1 = (omega (arith, ints, h.q1), omega (arith, ints, h.q1));
  q2 = (omega (arith, ints, h.q2), omega (arith, ints, h.q2));
  q3 = (omega (arith, ints, h.q3), omega (arith, ints, h.q3));
}

pub held : (z x : ℤ) → z ≡ x → Within 128 z → to_z w16 (of_z w16 z) ≡ x
held z x e h = omega (arith, ints)

pub kept : (z : ℤ) → Within 128 z → to_z w16 (of_z w16 z) ≡ z
kept z h = held z z refl h

-- a passed value as it is
abbrev pub as_passed : ℤ → ℤ
as_passed z = to_z w16 (of_z w16 z)

pub passed : (x y : ℤ) → Within 128 x → x ≡ y → as_passed x ≡ y
passed x y h e = held x y e h

pub back_to : (z x y x' y' : ℤ) → z ≡ signed_clamp (as_passed x -ℤ as_passed y) → Within 128 x → Within 128 y → x ≡ x' → y ≡ y' → z ≡ signed_clamp (x' -ℤ y')
back_to z x y x' y' e hx hy ex ey = e ∙ (ap (λ (a : ℤ). signed_clamp (a -ℤ as_passed y)) (passed x x' hx ex) ∙ ap (λ (b : ℤ). signed_clamp (x' -ℤ b)) (passed y y' hy ey))

pub on_to : (z x y x' y' : ℤ) → z ≡ signed_clamp (as_passed x +ℤ as_passed y) → Within 128 x → Within 128 y → x ≡ x' → y ≡ y' → z ≡ signed_clamp (x' +ℤ y')
on_to z x y x' y' e hx hy ex ey = e ∙ (ap (λ (a : ℤ). signed_clamp (a +ℤ as_passed y)) (passed x x' hx ex) ∙ ap (λ (b : ℤ). signed_clamp (x' +ℤ b)) (passed y y' hy ey))

pub step_to : (z x p q x' : ℤ) → z ≡ signed_clamp (as_passed x +ℤ pos 3 *ℤ (as_passed q -ℤ as_passed p)) → Within 128 x → Within 128 p → Within 128 q → x ≡ x' → z ≡ signed_clamp (x' +ℤ pos 3 *ℤ (q -ℤ p))
step_to z x p q x' e hx hp hq ex =
    e ∙ (ap (λ (a : ℤ). signed_clamp (a +ℤ pos 3 *ℤ (as_passed q -ℤ as_passed p))) (passed x x' hx ex)
    ∙ (ap (λ (b : ℤ). signed_clamp (x' +ℤ pos 3 *ℤ (b -ℤ as_passed p))) (kept q hq) ∙ ap (λ (b : ℤ). signed_clamp (x' +ℤ pos 3 *ℤ (q -ℤ b))) (kept p hp)))

pub step_sum : (o p q : ℤ) → Within 128 o → Within 128 p → Within 128 q → as_passed (as_passed o +ℤ as_passed (pos 3 *ℤ as_passed (as_passed q -ℤ as_passed p))) ≡ o +ℤ pos 3 *ℤ (q -ℤ p)
step_sum o p q ho hp hq = omega (arith, ints)

pub part_to : (z r x y : ℤ) → z ≡ signed_clamp (as_passed r) → r ≡ int_shr (as_passed x +ℤ pos 63) 7 → Within 128 r → as_passed x ≡ y → z ≡ signed_clamp (int_shr (y +ℤ pos 63) 7)
part_to z r x y e f h g = e ∙ ap (λ (v : ℤ). signed_clamp v) (passed r (int_shr (y +ℤ pos 63) 7) h (f ∙ ap (λ (v : ℤ). int_shr (v +ℤ pos 63) 7) g))

pub times_27 : (w : ℤ) → Within 128 w → as_passed (pos 27 *ℤ as_passed w) ≡ pos 27 *ℤ w
times_27 w h = omega (arith, ints)

pub times_18 : (w : ℤ) → Within 128 w → as_passed (pos 18 *ℤ as_passed w) ≡ pos 18 *ℤ w
times_18 w h = omega (arith, ints)

pub times_9 : (w : ℤ) → Within 128 w → as_passed (pos 9 *ℤ as_passed w) ≡ pos 9 *ℤ w
times_9 w h = omega (arith, ints)

pub fits_16 : (x : ℤ) → Within 16 x → Within 128 x
fits_16 x h = (omega (arith, ints), omega (arith, ints))

pub equal : (p3 p2 p1 p0 q0 q1 q2 q3 p3' p2' p1' p0' q0' q1' q2' q3' : ℤ) → p3 ≡ p3' → p2 ≡ p2' → p1 ≡ p1' → p0 ≡ p0' → q0 ≡ q0' → q1 ≡ q1' → q2 ≡ q2' → q3 ≡ q3'
    → (let x : Across = record { p3 = p3; p2 = p2; p1 = p1; p0 = p0; q0 = q0; q1 = q1; q2 = q2; q3 = q3 } in x) ≡ record { p3 = p3'; p2 = p2'; p1 = p1'; p0 = p0'; q0 = q0'; q1 = q1'; q2 = q2'; q3 = q3' }
equal p3 p2 p1 p0 q0 q1 q2 q3 p3' p2' p1' p0' q0' q1' q2' q3' a b c d e f g h = cc
