use Rattle.sal_frame.proofs.RasterLaws.{one_more}
use Rattle.sal_frame.proofs.raster.one_macroblock_more.Goals as goal

pub returns : goal.returns
returns c = one_more
