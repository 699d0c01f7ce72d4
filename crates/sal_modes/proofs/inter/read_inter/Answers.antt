use Rattle.sal_modes.proofs.IntraLemmas.{leaf_along}
use Rattle.sal_modes.proofs.InterLemmas.{inter_read, inter_fits}
use Rattle.sal_modes.proofs.inter.read_inter.Goals as goal

pub returns : goal.returns
returns c = record {
  reads = inter_read c.args.header.now c.args.probs.now c.args.around.now _ _ c.reference_of-reference.result c.near_for-near.result c.tree.result c.vector_mode-y.result _ _ _ _ _ _
      c.bit-later.ensures.reads c.bit_when-alt.ensures.reads c.reference_of-reference.ensures c.near_for-near.ensures.value
      (leaf_along _ _ _ _ _ _ c.vector_mode_tree.ensures.digits c.mode_row.ensures c.tree.ensures.reads) c.vector_mode-y.ensures c.vectors_of-vectors.ensures.reads;
  modes = inter_fits _ _ _ _ _ c.vectors_of-vectors.result c.reference_of-reference.ensures c.vector_mode-y.ensures c.vectors_of-vectors.ensures.whole;
}
