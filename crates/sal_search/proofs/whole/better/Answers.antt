use Rattle.std.proofs.Common.{arith}
use Rattle.sal_intra.specs.Intra.{whole_sample, luma_edge}
use Rattle.sal_search.proofs.Choices.{better_some, better_none}
use Rattle.sal_search.proofs.SubLemmas.{block_is}
use Rattle.sal_search.specs.Costs.{candidate}
use Rattle.sal_search.proofs.whole.better.Goals as goal

pub returns-in-Some-clause-candidate : goal.returns-in-Some-clause-candidate
returns-in-Some-clause-candidate c =
    better_some (candidate c.args.best.mode c.args.best.cost) c.args.mode c.in-Some.cost c.args.source.now.y _ _ _ c.in-Some.is c.sad_below.ensures.value
    (block_is 16 256 _ (whole_sample c.args.mode (luma_edge c.args.edge.now)) (omega arith) c.predict_luma.ensures)

pub returns-in-None-clause-candidate : goal.returns-in-None-clause-candidate
returns-in-None-clause-candidate c =
    better_none (candidate c.args.best.mode c.args.best.cost) c.args.mode c.args.source.now.y _ _ _ c.in-None.is c.sad_below.ensures.value
    (block_is 16 256 _ (whole_sample c.args.mode (luma_edge c.args.edge.now)) (omega arith) c.predict_luma.ensures)
