use Rattle.std.proofs.Common.{arith}
use Rattle.sal_codec.proofs.Samplewise.{differences_stretch, differences_end}
use Rattle.sal_codec.proofs.difference.push_differences.Goals as goal

pub loop-at-preserved : goal.loop-at-preserved
loop-at-preserved c = differences_stretch _ _ _ _ _ _ _ (omega arith) c.requires c.in_ok-push_less.ensures c.loop-at.invariant

pub returns : goal.returns
returns c = differences_end _ _ c.args.samples.now c.args.source.now c.loop-at.at (omega arith) c.loop-at.invariant
