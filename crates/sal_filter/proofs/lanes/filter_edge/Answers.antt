use Rattle.std.proofs.Common.{arith, length}
use Rattle.sal_filter.proofs.Rows.{eight_none, eight_more, after_part}
use Rattle.sal_filter.proofs.lanes.filter_edge.Goals as goal

pub loop-part-init : goal.loop-part-init
loop-part-init c = eight_none _ _ _ _ _

pub filter_eight-requires-clause-after : goal.filter_eight-requires-clause-after
filter_eight-requires-clause-after c n few =
    let one = after_part c.args.at c.args.step c.args.along c.args.eights c.loop-part.part n (length c.args.samples.now) c.requires.after c.loop-part-test.true few in
    omega (arith, one, c.loop-part.auto.samples)

pub loop-part-preserved : goal.loop-part-preserved
loop-part-preserved c = eight_more _ _ _ _ _ _ _ _ c.loop-part.invariant c.filter_eight.ensures
