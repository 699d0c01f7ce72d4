use Rattle.std.proofs.Common.{arith}
use Rattle.sal_macroblock.proofs.Places.{listed_is}
use Rattle.sal_intra.proofs.edges.sub_left.Goals as goal

pub returns : goal.returns
returns c = listed_is 4 _ 0 _ c.loop-i-test.array_long (λ j lt. (let below = c.loop-i-test.false in c.loop-i.invariant j (omega (arith, below))))
