use Rattle.sal_modes.proofs.IntraLemmas.{leaf_along}
use Rattle.sal_modes.proofs.SplitLemmas.{sub_vector_read, row_along}
use Rattle.sal_modes.proofs.split.read_sub_vector.Goals as goal

pub returns : goal.returns
returns c = record { reads = sub_vector_read c.args.probabilities.now c.args.best c.args.left c.args.above _ _ _ _ (leaf_along _ _ _ _ _ _ c.sub_vector_tree.ensures.digits (row_along _ _ _ _ c.sub_vector_probabilities.ensures.digits c.sub_context.ensures.value) c.tree-leaf.ensures.reads) c.sub_vector_of.ensures.reads }
