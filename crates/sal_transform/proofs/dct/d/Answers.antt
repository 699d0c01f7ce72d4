use Rattle.std.proofs.Common.{arith, ap, ◌∙◌, ◌≡◌, to_z, of_z, w32}
use Rattle.std.proofs.lemmas.Int.{ints}
use Rattle.sal_transform.specs.Inverse.{scaled}
use Rattle.sal_transform.proofs.dct.d.Goals as goal

pub returns-clause-value : goal.returns-clause-value
returns-clause-value c =
    let a : c.by_35468.result ≡ scaled 35468 c.args.x3 = c.by_35468.ensures.value ∙ ap (scaled 35468) (omega (arith, ints)) in
    let b : c.by_20091.result ≡ scaled 20091 c.args.x1 = c.by_20091.ensures.value ∙ ap (scaled 20091) (omega (arith, ints)) in
    omega (arith, ints)

pub returns-clause-smaller : goal.returns-clause-smaller
returns-clause-smaller c = λ h1 h3.
    let e1 : to_z w32 (of_z w32 c.args.x1) ≡ c.args.x1 = omega (arith, ints) in
    let e3 : to_z w32 (of_z w32 c.args.x3) ≡ c.args.x3 = omega (arith, ints) in
    let a = c.by_35468.ensures.smaller (rw e3 h3) in
    let b = c.by_20091.ensures.smaller (rw e1 h1) in
    let h10 = h1.0 in let h11 = h1.1 in let h30 = h3.0 in let h31 = h3.1 in
    (omega (arith, ints), omega (arith, ints))
