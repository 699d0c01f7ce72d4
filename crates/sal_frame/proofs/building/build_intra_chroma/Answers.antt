use Rattle.sal_frame.proofs.IntraLemmas.{chroma_placed}
use Rattle.sal_frame.proofs.building.build_intra_chroma.Goals as goal

pub returns : goal.returns
returns c = λ from. (chroma_placed from c.args.factors.now c.args.block.now c.args.first c.args.plane.now _ c.args.x c.args.y _ _ c.requires.mode.reference c.chroma_edge-edge.ensures c.intra_chroma-samples.ensures c.put_square.ensures)
