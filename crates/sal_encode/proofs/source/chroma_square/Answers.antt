use Rattle.std.proofs.Common.{arith}
use Rattle.sal_macroblock.proofs.Places.{listed_is}
use Rattle.sal_encode.proofs.source.chroma_square.Goals as goal

pub returns : goal.returns
returns c = listed_is 64 _ 0 _ c.loop-k-test.array_long (λ j lt. (let below = c.loop-k-test.false in c.loop-k.invariant j (omega (arith, below))))
