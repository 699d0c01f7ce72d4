use Rattle.std.proofs.Common.{◌∙◌}
use Rattle.sal_bool.proofs.Meaning.{run_on, run_done}
use Rattle.sal_header.specs.Headers.{segment_data}
use Rattle.sal_header.proofs.read.read_segment_data.Goals as goal

pub returns : goal.returns
unfolding segment_data
returns c = record {
  reads = run_on _ _ _ _ _ c.bit-absolute.ensures.reads ∙ (run_on _ _ _ _ _ c.update_four.ensures.reads ∙ (run_on _ _ _ _ _ c.update_four-2.ensures.reads ∙ (run_done _ _)));
}
