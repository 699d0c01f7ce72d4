use Rattle.sal_frame.proofs.IntraLemmas.{luma_rows, chroma_rows}
use Rattle.sal_frame.proofs.building.build_inter.Goals as goal

pub build_inter_luma-requires-clause-rows : goal.build_inter_luma-requires-clause-rows
build_inter_luma-requires-clause-rows c = luma_rows c.requires.place.columns c.requires.place.rows c.args.row _ _ c.requires.place.in_rows c.requires.place.blocks.y.width c.requires.place.blocks.y.samples

pub build_inter_chroma-requires-clause-rows : goal.build_inter_chroma-requires-clause-rows
build_inter_chroma-requires-clause-rows c = chroma_rows c.requires.place.columns c.requires.place.rows c.args.row _ _ c.requires.place.in_rows c.requires.place.blocks.u.width c.requires.place.blocks.u.samples

pub build_inter_chroma-requires-2-clause-rows : goal.build_inter_chroma-requires-2-clause-rows
build_inter_chroma-requires-2-clause-rows c = chroma_rows c.requires.place.columns c.requires.place.rows c.args.row _ _ c.requires.place.in_rows c.requires.place.blocks.v.width c.requires.place.blocks.v.samples
