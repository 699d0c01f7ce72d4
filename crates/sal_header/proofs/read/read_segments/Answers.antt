use Rattle.std.proofs.Common.{◌∙◌}
use Rattle.sal_bool.proofs.Meaning.{run_on, run_done}
use Rattle.sal_header.specs.Headers.{segments}
use Rattle.sal_header.proofs.read.read_segments.Goals as goal

pub returns : goal.returns
unfolding segments
returns c = record {
  reads = run_on _ _ _ _ _ c.bit-on.ensures.reads ∙ (run_on _ _ _ _ _ c.flag_when-update_map.ensures.reads ∙ (run_on _ _ _ _ _ c.flag_when-update_data.ensures.reads ∙ (run_on _ _ _ _ _ c.segment_data_when-data.ensures.reads ∙ (run_on _ _ _ _ _ c.segment_map_when-map.ensures.reads ∙ (run_done _ _)))));
}
