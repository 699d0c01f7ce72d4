use Rattle.std.proofs.Common.{arith}
use Rattle.sal_codec.proofs.Samplewise.{sums_stretch, sums_end}
use Rattle.sal_codec.proofs.difference.push_sums.Goals as goal

pub loop-at-preserved : goal.loop-at-preserved
loop-at-preserved c = sums_stretch _ _ _ _ _ _ _ (omega arith) c.requires c.in_ok-push_plus.ensures c.loop-at.invariant

pub returns : goal.returns
returns c = sums_end _ _ c.args.samples.now c.args.source.now c.loop-at.at (omega arith) c.loop-at.invariant
