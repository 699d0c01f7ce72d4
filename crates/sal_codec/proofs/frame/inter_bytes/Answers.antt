use Rattle.sal_codec.proofs.Samplewise.{sums_again}
use Rattle.sal_codec.proofs.frame.inter_bytes.Goals as goal

pub returns-clause-again : goal.returns-clause-again
returns-clause-again c = sums_again _ _ c.type_inv.samples c.type_inv.source c.requires
