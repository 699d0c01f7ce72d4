use Rattle.std.proofs.Common.{arith}
use Rattle.sal_encode.proofs.FrameMade.{length_fits}
use Rattle.sal_encode.proofs.frame.length_of.Goals as goal

pub overflow_cast-result : goal.overflow_cast-result
overflow_cast-result c =
    let few = length_fits c.args.state.now (c.args.width, c.args.height) c.args.plan.now _ c.args.first.now c.len.result c.requires.plan c.kept-kept.ensures.kept c.are_four.ensures c.are_four-2.ensures c.requires.first c.len.ensures in omega (arith, few)
