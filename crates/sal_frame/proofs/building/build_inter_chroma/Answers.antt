use Rattle.sal_frame.proofs.InterLemmas.{chroma_placed}
use Rattle.sal_frame.proofs.building.build_inter_chroma.Goals as goal

pub returns : goal.returns
returns c = chroma_placed c.args.reference.now c.args.factors.now c.args.block.now c.args.first c.args.plane.now _ c.args.x c.args.y _ c.requires.mode c.inter_chroma-samples.ensures c.put_square.ensures
