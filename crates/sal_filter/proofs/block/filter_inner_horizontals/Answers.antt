use Rattle.sal_filter.proofs.Squares.{fits_as_long, fourths_none, fourths_more}
use Rattle.sal_filter.proofs.block.filter_inner_horizontals.Goals as goal

pub loop-k-init : goal.loop-k-init
loop-k-init c = fourths_none _ _

pub filter_horizontal-requires-clause-fits : goal.filter_horizontal-requires-clause-fits
filter_horizontal-requires-clause-fits c = fits_as_long _ _ _ c.loop-k.auto.samples c.requires

pub loop-k-preserved : goal.loop-k-preserved
loop-k-preserved c = fourths_more _ _ _ _ _ c.loop-k.invariant c.filter_horizontal.ensures
