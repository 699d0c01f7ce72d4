use Rattle.std.proofs.Common.{[], arith}
use Rattle.sal_macroblock.proofs.Places.{listed_is}
use Rattle.sal_transform.proofs.residue.luma_after.Goals as goal

pub returns : goal.returns
returns c = listed_is 16 _ [] _ c.loop-k.invariant.long (λ j lt. (let below = c.loop-k-test.false in c.loop-k.invariant.done j (omega (arith, below))))
