use Rattle.std.proofs.Common.{arith}
use Rattle.sal_intra.specs.Sub.{sub_sample}
use Rattle.sal_search.proofs.SubLemmas.{block_is, candidate_is}
use Rattle.sal_search.proofs.sub.of_mode.Goals as goal

pub returns-clause-candidate : goal.returns-clause-candidate
returns-clause-candidate c = candidate_is _ _ _ _ _ (block_is 4 16 _ (sub_sample c.args.mode c.args.around.now) (omega arith) c.predict_sub-samples.ensures) c.sad_16-cost.ensures.value

pub returns-clause-samples : goal.returns-clause-samples
returns-clause-samples c = block_is 4 16 _ (sub_sample c.args.mode c.args.around.now) (omega arith) c.predict_sub-samples.ensures
