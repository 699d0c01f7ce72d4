use Rattle.sal_filter.proofs.Squares.{fits_in}
use Rattle.sal_filter.proofs.picture.filter_plane.Goals as goal

pub filter_square-requires : goal.filter_square-requires
filter_square-requires c = fits_in _ _ _ _ _ c.as_mut_slice.ensures.value c.requires.plane.samples c.requires.width c.requires.columns c.requires.rows c.requires.left c.requires.top c.requires.side
