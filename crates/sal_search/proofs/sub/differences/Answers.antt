use Rattle.std.proofs.Common.{pos, arith}
use Rattle.sal_macroblock.specs.Sizes.{Within}
use Rattle.sal_macroblock.proofs.Places.{listed_is}
use Rattle.sal_search.proofs.SubLemmas.{all_at}
use Rattle.sal_search.proofs.sub.differences.Goals as goal

pub returns-clause-value : goal.returns-clause-value
returns-clause-value c = listed_is 16 _ (pos 0) _ c.loop-k.invariant.long (λ j lt. (let below = c.loop-k-test.false in c.loop-k.invariant.done j (omega (arith, below))))

pub returns-clause-small : goal.returns-clause-small
returns-clause-small c = all_at (Within 255) 16 _ c.loop-k.invariant.long (λ j lt. (let below = c.loop-k-test.false in c.loop-k.invariant.small j (omega (arith, below))))
