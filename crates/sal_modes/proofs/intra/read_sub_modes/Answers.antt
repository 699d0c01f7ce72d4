use Rattle.std.proofs.Common.{◌∙◌}
use Rattle.std.proofs.lemmas.List.{length-set}
use Rattle.sal_modes.proofs.IntraLemmas.{leaf_along, sub_modes_more, sub_modes_all}
use Rattle.sal_modes.proofs.intra.read_sub_modes.Goals as goal

pub loop-k-preserved : goal.loop-k-preserved
loop-k-preserved c = record {
  long = length-set c.loop-k.modes c.loop-k.k c.sub_mode.result ∙ c.loop-k.invariant.long;
  reads = sub_modes_more c.args.key c.args.around.now c.loop-k.modes c.loop-k.k c.tree.result c.sub_mode.result _ _ _ c.loop-k-test.true c.loop-k.invariant.long
      (leaf_along _ _ _ _ _ _ c.subblock_tree.ensures.digits c.sub_probabilities-row.ensures.row c.tree.ensures.reads) c.sub_mode.ensures c.loop-k.invariant.reads;
}

pub returns : goal.returns
returns c = record { reads = sub_modes_all c.args.key c.args.around.now c.loop-k.modes c.loop-k.k c.loop-k.decoder _ c.loop-k-test.false c.loop-k.invariant.long c.loop-k.invariant.reads }
