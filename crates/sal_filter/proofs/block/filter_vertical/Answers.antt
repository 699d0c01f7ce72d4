use Rattle.std.proofs.Common.{arith}
use Rattle.sal_filter.proofs.Squares.{upright_fits, upright_apart, upright_whole}
use Rattle.sal_filter.proofs.block.filter_vertical.Goals as goal

pub filter_edge-requires-clause-after : goal.filter_edge-requires-clause-after
filter_edge-requires-clause-after c n below = upright_fits _ _ _ n c.requires.fits c.requires.offset (omega (arith, below))

pub filter_edge-requires-clause-apart : goal.filter_edge-requires-clause-apart
filter_edge-requires-clause-apart c d m few some below same = upright_apart _ _ d m c.requires.fits few some same

pub returns : goal.returns
returns c = upright_whole _ _ _ _ _ c.requires.fits c.filter_edge.ensures
