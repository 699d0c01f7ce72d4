use Rattle.sal_frame.proofs.IntraLemmas.{luma_placed}
use Rattle.sal_frame.proofs.building.build_intra_luma.Goals as goal

pub returns : goal.returns
returns c = λ from. (luma_placed from c.args.factors.now c.args.block.now c.args.plane.now _ c.args.x c.args.y _ _ c.requires.mode.reference c.luma_edge-edge.ensures c.intra_luma-samples.ensures c.put_square.ensures)
