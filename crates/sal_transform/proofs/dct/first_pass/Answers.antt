use Rattle.std.proofs.Common.{arith, ◌∙◌, ◌≡◌, w32, refl, to_z, of_z}
use Rattle.std.proofs.lemmas.Int.{ints}
use Rattle.sal_transform.specs.Inverse.{c_of, d_of, out_0, out_1, out_2, out_3}
use Rattle.sal_transform.proofs.dct.first_pass.Goals as goal

pub returns-clause-y0 : goal.returns-clause-y0
unfolding out_0
returns-clause-y0 c =
    let e1 : to_z w32 (of_z w32 c.args.x1) ≡ c.args.x1 = omega (arith, ints) in
    let e3 : to_z w32 (of_z w32 c.args.x3) ≡ c.args.x3 = omega (arith, ints) in
    let cs = c.c-c.ensures.smaller (rw e1 c.requires.x1) (rw e3 c.requires.x3) in
    let ds = c.d-d.ensures.smaller (rw e1 c.requires.x1) (rw e3 c.requires.x3) in
    let cc1 : c.c-c.result ≡ c_of c.args.x1 c.args.x3 = c.c-c.ensures.value ∙ rw (e1, e3) refl in
    let dd1 : c.d-d.result ≡ d_of c.args.x1 c.args.x3 = c.d-d.ensures.value ∙ rw (e1, e3) refl in
    (omega (arith, ints), (omega (arith, ints), omega (arith, ints)))

pub returns-clause-y1 : goal.returns-clause-y1
unfolding out_1
returns-clause-y1 c =
    let e1 : to_z w32 (of_z w32 c.args.x1) ≡ c.args.x1 = omega (arith, ints) in
    let e3 : to_z w32 (of_z w32 c.args.x3) ≡ c.args.x3 = omega (arith, ints) in
    let cs = c.c-c.ensures.smaller (rw e1 c.requires.x1) (rw e3 c.requires.x3) in
    let ds = c.d-d.ensures.smaller (rw e1 c.requires.x1) (rw e3 c.requires.x3) in
    let cc1 : c.c-c.result ≡ c_of c.args.x1 c.args.x3 = c.c-c.ensures.value ∙ rw (e1, e3) refl in
    let dd1 : c.d-d.result ≡ d_of c.args.x1 c.args.x3 = c.d-d.ensures.value ∙ rw (e1, e3) refl in
    (omega (arith, ints), (omega (arith, ints), omega (arith, ints)))

pub returns-clause-y2 : goal.returns-clause-y2
unfolding out_2
returns-clause-y2 c =
    let e1 : to_z w32 (of_z w32 c.args.x1) ≡ c.args.x1 = omega (arith, ints) in
    let e3 : to_z w32 (of_z w32 c.args.x3) ≡ c.args.x3 = omega (arith, ints) in
    let cs = c.c-c.ensures.smaller (rw e1 c.requires.x1) (rw e3 c.requires.x3) in
    let ds = c.d-d.ensures.smaller (rw e1 c.requires.x1) (rw e3 c.requires.x3) in
    let cc1 : c.c-c.result ≡ c_of c.args.x1 c.args.x3 = c.c-c.ensures.value ∙ rw (e1, e3) refl in
    let dd1 : c.d-d.result ≡ d_of c.args.x1 c.args.x3 = c.d-d.ensures.value ∙ rw (e1, e3) refl in
    (omega (arith, ints), (omega (arith, ints), omega (arith, ints)))

pub returns-clause-y3 : goal.returns-clause-y3
unfolding out_3
returns-clause-y3 c =
    let e1 : to_z w32 (of_z w32 c.args.x1) ≡ c.args.x1 = omega (arith, ints) in
    let e3 : to_z w32 (of_z w32 c.args.x3) ≡ c.args.x3 = omega (arith, ints) in
    let cs = c.c-c.ensures.smaller (rw e1 c.requires.x1) (rw e3 c.requires.x3) in
    let ds = c.d-d.ensures.smaller (rw e1 c.requires.x1) (rw e3 c.requires.x3) in
    let cc1 : c.c-c.result ≡ c_of c.args.x1 c.args.x3 = c.c-c.ensures.value ∙ rw (e1, e3) refl in
    let dd1 : c.d-d.result ≡ d_of c.args.x1 c.args.x3 = c.d-d.ensures.value ∙ rw (e1, e3) refl in
    (omega (arith, ints), (omega (arith, ints), omega (arith, ints)))
