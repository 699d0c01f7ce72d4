use Rattle.std.proofs.Common.{◌∙◌}
use Rattle.sal_bool.proofs.Meaning.{run_on, run_done}
use Rattle.sal_header.specs.Headers.{modes}
use Rattle.sal_header.proofs.read.read_modes.Goals as goal

pub returns : goal.returns
unfolding modes
returns c = record {
  reads = run_on _ _ _ _ _ c.bit-skips.ensures.reads ∙ (run_on _ _ _ _ _ c.small_when-skip.ensures.reads ∙ (run_on _ _ _ _ _ c.inter_modes_when-inter.ensures.reads ∙ (run_done _ _)));
}
