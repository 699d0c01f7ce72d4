use Rattle.std.proofs.Common.{refl, subst, ◌≤◌, ◌<◌, ℕ}
use Rattle.sal_modes.proofs.IntraLemmas.{leaf_along}
use Rattle.sal_modes.proofs.SplitLemmas.{parts_none, parts_more, parts_all}
use Rattle.sal_modes.proofs.split.read_split.Goals as goal

pub loop-part-init : goal.loop-part-init
loop-part-init c = record { long = refl; reads = parts_none c.args.probabilities.now c.args.around.now c.args.best c.tree-partition.result _ _ _ }

pub loop-part-preserved : goal.loop-part-preserved
loop-part-preserved c =
    let below = subst (λ (n : ℕ). c.loop-part.part < n) c.part_count-part-end.ensures.value c.loop-part-test.true in
    record {
      long = c.put_part.array_long;
      reads = parts_more c.args.probabilities.now c.args.around.now c.args.best c.tree-partition.result _ c.loop-part.part c.first_block-k.result c.loop-part.vectors c.put_part.new.vectors _ _ _ _ _ _
          below c.first_block-k.ensures.value c.left_of-left.ensures c.above_of-above.ensures c.read_sub_vector-vector.ensures.reads c.put_part.ensures c.loop-part.invariant.reads;
    }

pub returns : goal.returns
returns c =
    let over = subst (λ (n : ℕ). n ≤ c.loop-part.part) c.part_count-part-end.ensures.value c.loop-part-test.false in
    record {
      reads = parts_all c.args.probabilities.now c.args.around.now c.args.best c.tree-partition.result c.loop-part.part c.loop-part.vectors _ _ _ over
          (leaf_along _ _ _ _ _ _ c.split_tree.ensures.digits c.split_probabilities.ensures.digits c.tree-partition.ensures.reads) c.loop-part.invariant.reads;
    }
