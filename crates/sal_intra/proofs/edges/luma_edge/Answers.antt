use Rattle.sal_intra.proofs.Around.{luma_around}
use Rattle.sal_intra.proofs.edges.luma_edge.Goals as goal

pub returns : goal.returns
returns c = luma_around c.args.plane.now.width c.args.x c.args.y c.corner.result c.args.plane.now.samples c.as_slice-samples.result.now _ _ c.as_slice-samples.ensures c.fill_above.auto.above c.fill_left.auto.left c.fill_above.ensures c.fill_left.ensures c.corner.ensures
