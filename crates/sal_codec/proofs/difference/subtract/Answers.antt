use Rattle.std.proofs.Common.{arith}
use Rattle.sal_codec.specs.Plain.{less, differences}
use Rattle.sal_codec.proofs.Samplewise.{done_more, done_all}
use Rattle.sal_codec.proofs.difference.subtract.Goals as goal

pub loop-at-preserved : goal.loop-at-preserved
loop-at-preserved c = done_more less _ _ _ _ c.loop-at.invariant (omega arith)

pub returns : goal.returns
unfolding differences
returns c = done_all less _ _ _ _ c.loop-at.invariant (omega arith) (omega arith) (omega arith)
