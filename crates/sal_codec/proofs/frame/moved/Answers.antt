use Rattle.std.proofs.Common.{◌∙◌, ap, length}
use Rattle.sal_codec.proofs.Samplewise.{sums_long}
use Rattle.sal_codec.proofs.frame.moved.Goals as goal

pub returns-clause-long : goal.returns-clause-long
returns-clause-long c = ap length c.from_vec.ensures ∙ sums_long _ _ _ _ c.in_ok-push_sums.ensures c.in_ok-samples.ensures.items c.requires
