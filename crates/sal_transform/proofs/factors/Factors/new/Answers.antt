use Rattle.std.proofs.Common.{◌≡◌, ◌*◌, ℕ, pos, ap, arith, refl, to_z, of_z, w8}
use Rattle.std.proofs.lemmas.Int.{ints}
use Rattle.sal_transform.specs.Factors.{factors_of}
use Rattle.sal_transform.proofs.SixFactors.{equal, dc_same, ac_same, at_least_8, at_most_132}
use Rattle.sal_transform.proofs.factors.Factors.new.Goals as goal

pub returns : goal.returns
unfolding factors_of
returns c =
    let d1 : to_z w8 (of_z w8 c.args.y_dc) ≡ c.args.y_dc = omega (arith, ints) in
    let d2 : to_z w8 (of_z w8 c.args.y2_dc) ≡ c.args.y2_dc = omega (arith, ints) in
    let d3 : to_z w8 (of_z w8 c.args.y2_ac) ≡ c.args.y2_ac = omega (arith, ints) in
    let d4 : to_z w8 (of_z w8 c.args.uv_dc) ≡ c.args.uv_dc = omega (arith, ints) in
    let d5 : to_z w8 (of_z w8 c.args.uv_ac) ≡ c.args.uv_ac = omega (arith, ints) in
    equal _ _ _ _ _ _ _ _ _ _ _ _
    (dc_same _ _ _ _ _ c.dc_factor.ensures.value refl d1)
    (ac_same _ _ _ (pos 0) (pos 0) c.ac_factor.ensures.value refl refl)
    (ap (λ (n : ℕ). 2 * n) (dc_same _ _ _ _ _ c.dc_factor-2.ensures.value refl d2))
    (at_least_8 _ _ _ c.max.ensures (ac_same _ _ _ _ _ c.ac_factor-2.ensures.value refl d3))
    (at_most_132 _ _ _ c.min.ensures (dc_same _ _ _ _ _ c.dc_factor-3.ensures.value refl d4))
    (ac_same _ _ _ _ _ c.ac_factor-3.ensures.value refl d5)
