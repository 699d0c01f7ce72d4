use Rattle.std.proofs.Common.{pos, arith}
use Rattle.sal_macroblock.specs.Sizes.{Within}
use Rattle.sal_macroblock.proofs.Places.{listed_is}
use Rattle.sal_search.proofs.SubLemmas.{all_at}
use Rattle.sal_encode.specs.Quantised.{block_differences}
use Rattle.sal_encode.proofs.quantised.block_differences.Goals as goal

pub returns-clause-value : goal.returns-clause-value
unfolding block_differences
returns-clause-value c = listed_is 16 _ (pos 0) _ c.loop-i.invariant.long (λ j lt. (let below = c.loop-i-test.false in c.loop-i.invariant.done j (omega (arith, below))))

pub returns-clause-small : goal.returns-clause-small
returns-clause-small c = all_at (Within 255) 16 _ c.loop-i.invariant.long (λ j lt. (let below = c.loop-i-test.false in c.loop-i.invariant.small j (omega (arith, below))))
