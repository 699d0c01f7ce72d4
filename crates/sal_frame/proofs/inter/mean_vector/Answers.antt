use Rattle.std.proofs.Common.{◌≡◌, ◌∙◌, ◌+ℤ◌, arith, to_z, of_z, w16}
use Rattle.std.proofs.lemmas.Int.{ints}
use Rattle.sal_frame.proofs.Means.{mean_same, vector_same}
use Rattle.sal_frame.proofs.inter.mean_vector.Goals as goal

pub returns : goal.returns
returns c =
    let r1 : to_z w16 (of_z w16 c.args.a.row) ≡ c.args.a.row = omega (arith, ints) in
    let r2 : to_z w16 (of_z w16 c.args.b.row) ≡ c.args.b.row = omega (arith, ints) in
    let r3 : to_z w16 (of_z w16 c.args.c.row) ≡ c.args.c.row = omega (arith, ints) in
    let r4 : to_z w16 (of_z w16 c.args.d.row) ≡ c.args.d.row = omega (arith, ints) in
    let c1 : to_z w16 (of_z w16 c.args.a.column) ≡ c.args.a.column = omega (arith, ints) in
    let c2 : to_z w16 (of_z w16 c.args.b.column) ≡ c.args.b.column = omega (arith, ints) in
    let c3 : to_z w16 (of_z w16 c.args.c.column) ≡ c.args.c.column = omega (arith, ints) in
    let c4 : to_z w16 (of_z w16 c.args.d.column) ≡ c.args.d.column = omega (arith, ints) in
    let row : to_z w16 (of_z w16 c.mean.result) ≡ c.mean.result = omega (arith, ints) in
    let column : to_z w16 (of_z w16 c.mean-2.result) ≡ c.mean-2.result = omega (arith, ints) in
    vector_same _ _ _ _ (row ∙ mean_same _ _ _ _ _ _ _ _ _ c.mean.ensures r1 r2 r3 r4) (column ∙ mean_same _ _ _ _ _ _ _ _ _ c.mean-2.ensures c1 c2 c3 c4)
