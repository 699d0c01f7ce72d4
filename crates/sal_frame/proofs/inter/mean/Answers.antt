use Rattle.std.proofs.Common.{◌≡◌, ℤ, ◌+ℤ◌, arith, to_z, of_z, w16, w32}
use Rattle.std.proofs.lemmas.Int.{ints}
use Rattle.sal_frame.proofs.Means.{mean_is}
use Rattle.sal_frame.proofs.inter.mean.Goals as goal

pub returns : goal.returns
returns c =
    let passed : ℤ = to_z w32 (of_z w32 (to_z w32 (of_z w32 c.pair.result) +ℤ to_z w32 (of_z w32 c.pair-2.result))) in
    let sum : ℤ = ((c.args.a +ℤ c.args.b) +ℤ c.args.c) +ℤ c.args.d in
    let same : to_z w32 (of_z w32 (to_z w32 (of_z w32 c.pair.result) +ℤ to_z w32 (of_z w32 c.pair-2.result))) ≡ ((c.args.a +ℤ c.args.b) +ℤ c.args.c) +ℤ c.args.d = omega (arith, ints) in
    let kept : to_z w16 (of_z w16 c.quarter.result) ≡ c.quarter.result = omega (arith, ints) in
    mean_is c.quarter.result passed sum (to_z w16 (of_z w16 c.quarter.result)) c.quarter.ensures same kept
