use Rattle.std.proofs.Common.{arith}
use Rattle.sal_header.proofs.Placing.{count_is, few_parts}
use Rattle.sal_header.proofs.places.count_of.Goals as goal

pub returns : goal.returns
returns c =
    let is = count_is c.args.log2 c.requires in
    let few = few_parts c.args.log2 c.requires in
    record { count = is; some = omega (arith, is, few.0); few = omega (arith, is, few.1) }
