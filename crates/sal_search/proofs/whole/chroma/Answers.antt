use Rattle.std.proofs.Common.{arith}
use Rattle.sal_intra.specs.Intra.{whole_sample, chroma_edge}
use Rattle.sal_search.proofs.SubLemmas.{block_is, both_planes}
use Rattle.sal_search.proofs.whole.chroma.Goals as goal

pub returns : goal.returns
returns c = record {
  candidate = both_planes c.args.mode _ _ c.args.source.now.u c.args.source.now.v _ _ _ _
      (block_is 8 64 _ (whole_sample c.args.mode (chroma_edge c.args.u.now)) (omega arith) c.predict_chroma.ensures)
      (block_is 8 64 _ (whole_sample c.args.mode (chroma_edge c.args.v.now)) (omega arith) c.predict_chroma-2.ensures)
      c.sad_64-of_u.ensures.value c.sad_64-of_v.ensures.value;
}
