use Rattle.sal_frame.proofs.InterLemmas.{luma_placed}
use Rattle.sal_frame.proofs.building.build_inter_luma.Goals as goal

pub returns : goal.returns
returns c = luma_placed c.args.reference.now c.args.factors.now c.args.block.now c.args.plane.now _ c.args.x c.args.y _ c.requires.mode c.inter_luma-samples.ensures c.put_square.ensures
