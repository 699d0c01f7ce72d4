use Rattle.std.proofs.Common.{◌∙◌}
use Rattle.sal_bool.proofs.Meaning.{run_on, run_done}
use Rattle.sal_header.specs.Headers.{filtering}
use Rattle.sal_header.proofs.read.read_filtering.Goals as goal

pub returns-clause-reads : goal.returns-clause-reads
unfolding filtering
returns-clause-reads c = run_on _ _ _ _ _ c.bit-simple.ensures.reads ∙ (run_on _ _ _ _ _ c.small-level.ensures.reads ∙ (run_on _ _ _ _ _ c.small-sharpness.ensures.reads ∙ (run_on _ _ _ _ _ c.bit-on.ensures.reads ∙ (run_on _ _ _ _ _ c.flag_when-update.ensures.reads ∙ (run_on _ _ _ _ _ c.filter_deltas_when-deltas.ensures.reads ∙ (run_done _ _))))))
