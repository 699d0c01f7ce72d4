use Rattle.sal_frame.proofs.RasterLaws.{one_size, blank_size}
use Rattle.sal_frame.proofs.raster.sizes_stay.Goals as goal

pub returns : goal.returns
returns c = record { one = one_size; blank = blank_size }
