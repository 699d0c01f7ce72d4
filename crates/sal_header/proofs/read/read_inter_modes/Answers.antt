use Rattle.std.proofs.Common.{◌∙◌}
use Rattle.sal_bool.proofs.Meaning.{run_on, run_done}
use Rattle.sal_header.specs.Headers.{inter_modes}
use Rattle.sal_header.proofs.read.read_inter_modes.Goals as goal

pub returns : goal.returns
unfolding inter_modes
returns c = record {
  reads = run_on _ _ _ _ _ c.small-intra.ensures.reads ∙ (run_on _ _ _ _ _ c.small-last.ensures.reads ∙ (run_on _ _ _ _ _ c.small-golden.ensures.reads ∙ (run_on _ _ _ _ _ c.optional_four-y.ensures.reads ∙ (run_on _ _ _ _ _ c.optional_three-chroma.ensures.reads ∙ (run_on _ _ _ _ _ c.vector_updates.ensures.reads ∙ (run_done _ _))))));
}
