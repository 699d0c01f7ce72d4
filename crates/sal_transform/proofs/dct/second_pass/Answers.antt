use Rattle.std.proofs.Common.{arith, ap, ◌∙◌, ◌≡◌, w32, refl, to_z, of_z}
use Rattle.std.proofs.lemmas.Int.{ints}
use Rattle.sal_transform.specs.Inverse.{c_of, d_of, out_0, out_1, out_2, out_3, rounded}
use Rattle.sal_transform.proofs.dct.second_pass.Goals as goal

pub returns-clause-y0 : goal.returns-clause-y0
unfolding out_0
returns-clause-y0 c =
    let e1 : to_z w32 (of_z w32 c.args.x1) ≡ c.args.x1 = omega (arith, ints) in
    let e3 : to_z w32 (of_z w32 c.args.x3) ≡ c.args.x3 = omega (arith, ints) in
    let cc1 : c.c-c.result ≡ c_of c.args.x1 c.args.x3 = c.c-c.ensures.value ∙ rw (e1, e3) refl in
    let dd1 : c.d-d.result ≡ d_of c.args.x1 c.args.x3 = c.d-d.ensures.value ∙ rw (e1, e3) refl in
    let z0 : to_z w32 (of_z w32 c.round3.result) ≡ c.round3.result = omega (arith, ints) in
    (z0 ∙ c.round3.ensures.value ∙ ap rounded (omega (arith, ints)), (omega (arith, ints), omega (arith, ints)))

pub returns-clause-y1 : goal.returns-clause-y1
unfolding out_1
returns-clause-y1 c =
    let e1 : to_z w32 (of_z w32 c.args.x1) ≡ c.args.x1 = omega (arith, ints) in
    let e3 : to_z w32 (of_z w32 c.args.x3) ≡ c.args.x3 = omega (arith, ints) in
    let cc1 : c.c-c.result ≡ c_of c.args.x1 c.args.x3 = c.c-c.ensures.value ∙ rw (e1, e3) refl in
    let dd1 : c.d-d.result ≡ d_of c.args.x1 c.args.x3 = c.d-d.ensures.value ∙ rw (e1, e3) refl in
    let z1 : to_z w32 (of_z w32 c.round3-2.result) ≡ c.round3-2.result = omega (arith, ints) in
    (z1 ∙ c.round3-2.ensures.value ∙ ap rounded (omega (arith, ints)), (omega (arith, ints), omega (arith, ints)))

pub returns-clause-y2 : goal.returns-clause-y2
unfolding out_2
returns-clause-y2 c =
    let e1 : to_z w32 (of_z w32 c.args.x1) ≡ c.args.x1 = omega (arith, ints) in
    let e3 : to_z w32 (of_z w32 c.args.x3) ≡ c.args.x3 = omega (arith, ints) in
    let cc1 : c.c-c.result ≡ c_of c.args.x1 c.args.x3 = c.c-c.ensures.value ∙ rw (e1, e3) refl in
    let dd1 : c.d-d.result ≡ d_of c.args.x1 c.args.x3 = c.d-d.ensures.value ∙ rw (e1, e3) refl in
    let z2 : to_z w32 (of_z w32 c.round3-3.result) ≡ c.round3-3.result = omega (arith, ints) in
    (z2 ∙ c.round3-3.ensures.value ∙ ap rounded (omega (arith, ints)), (omega (arith, ints), omega (arith, ints)))

pub returns-clause-y3 : goal.returns-clause-y3
unfolding out_3
returns-clause-y3 c =
    let e1 : to_z w32 (of_z w32 c.args.x1) ≡ c.args.x1 = omega (arith, ints) in
    let e3 : to_z w32 (of_z w32 c.args.x3) ≡ c.args.x3 = omega (arith, ints) in
    let cc1 : c.c-c.result ≡ c_of c.args.x1 c.args.x3 = c.c-c.ensures.value ∙ rw (e1, e3) refl in
    let dd1 : c.d-d.result ≡ d_of c.args.x1 c.args.x3 = c.d-d.ensures.value ∙ rw (e1, e3) refl in
    let z3 : to_z w32 (of_z w32 c.round3-4.result) ≡ c.round3-4.result = omega (arith, ints) in
    (z3 ∙ c.round3-4.ensures.value ∙ ap rounded (omega (arith, ints)), (omega (arith, ints), omega (arith, ints)))
