use Rattle.sal_modes.proofs.SplitLemmas.{put_none, put_there, put_not, put_all}
use Rattle.sal_modes.proofs.split.put_part.Goals as goal
use Rattle.sal_modes.proofs.split.put_part.Goals.{then-part_of-part, else-part_of-part}

pub loop-k-init : goal.loop-k-init
loop-k-init c = put_none c.args.partition c.args.part c.args.vector c.args.vectors.now c.told-vectors

pub loop-k-preserved : goal.loop-k-preserved
loop-k-preserved c = elim c.if-part_of-part.branch [
  | then-part_of-part w ↦ put_there c.args.partition c.args.part c.args.vector c.args.vectors.now c.loop-k.k c.loop-k.vectors _ _ c.loop-k-test.true c.part_of.ensures w.if-part_of-part.true w.vectors-is c.loop-k.invariant
  | else-part_of-part w ↦ put_not c.args.partition c.args.part c.args.vector c.args.vectors.now c.loop-k.k c.loop-k.vectors _ _ c.part_of.ensures w.if-part_of-part.false w.vectors-is c.loop-k.invariant
]

pub returns : goal.returns
returns c = put_all c.args.partition c.args.part c.args.vector c.args.vectors.now c.loop-k.k c.loop-k.vectors c.loop-k-test.false c.loop-k.invariant
