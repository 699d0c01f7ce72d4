use Rattle.std.proofs.Common.{◌∙◌}
use Rattle.sal_bool.proofs.Meaning.{run_on, run_done}
use Rattle.sal_header.specs.Headers.{inter_refreshing}
use Rattle.sal_header.proofs.read.inter_refreshing.Goals as goal

pub returns : goal.returns
unfolding inter_refreshing
returns c = record {
  reads = run_on _ _ _ _ _ c.bit-golden.ensures.reads ∙ (run_on _ _ _ _ _ c.bit-alt.ensures.reads ∙ (run_on _ _ _ _ _ c.small_when-copy_golden.ensures.reads ∙ (run_on _ _ _ _ _ c.small_when-copy_alt.ensures.reads ∙ (run_on _ _ _ _ _ c.bit-bias_golden.ensures.reads ∙ (run_on _ _ _ _ _ c.bit-bias_alt.ensures.reads ∙ (run_on _ _ _ _ _ c.bit-entropy.ensures.reads ∙ (run_on _ _ _ _ _ c.bit-last.ensures.reads ∙ (run_done _ _))))))));
}
