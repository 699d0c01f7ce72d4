use Rattle.std.proofs.Common.{arith}
use Rattle.sal_codec.specs.Plain.{plus, sums}
use Rattle.sal_codec.proofs.Samplewise.{done_more, done_all}
use Rattle.sal_codec.proofs.difference.add.Goals as goal

pub loop-at-preserved : goal.loop-at-preserved
loop-at-preserved c = done_more plus _ _ _ _ c.loop-at.invariant (omega arith)

pub returns : goal.returns
unfolding sums
returns c = done_all plus _ _ _ _ c.loop-at.invariant (omega arith) (omega arith) (omega arith)
