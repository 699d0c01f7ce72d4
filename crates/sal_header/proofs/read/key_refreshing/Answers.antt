use Rattle.std.proofs.Common.{◌∙◌}
use Rattle.sal_bool.proofs.Meaning.{run_on, run_done}
use Rattle.sal_header.specs.Headers.{key_refreshing}
use Rattle.sal_header.proofs.read.key_refreshing.Goals as goal

pub returns : goal.returns
unfolding key_refreshing
returns c = record {
  reads = run_on _ _ _ _ _ c.bit-entropy.ensures.reads ∙ (run_done _ _);
}
