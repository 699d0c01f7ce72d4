use Rattle.std.proofs.Common.{arith}
use Rattle.sal_base.specs.declared.kinds.YMode.TheVariants.{DC}
use Rattle.sal_intra.specs.Intra.{whole_sample, luma_edge}
use Rattle.sal_search.proofs.SubLemmas.{block_is, candidate_is, of_four}
use Rattle.sal_search.proofs.whole.best_whole.Goals as goal

pub returns-clause-candidate : goal.returns-clause-candidate
returns-clause-candidate c =
    of_four _ _ _ _ _ _ _ _
    (candidate_is DC _ c.args.source.now.y _ _ (block_is 16 256 _ (whole_sample DC (luma_edge c.args.edge.now)) (omega arith) c.predict_luma.ensures) c.sad_256-cost.ensures.value)
    c.better-best.ensures.candidate c.better-best-2.ensures.candidate c.better.ensures.candidate
