use Rattle.std.proofs.Common.{arith}
use Rattle.sal_filter.proofs.Squares.{level_before, level_fits, level_apart, level_whole}
use Rattle.sal_filter.proofs.block.filter_horizontal.Goals as goal

pub filter_edge-requires-clause-before : goal.filter_edge-requires-clause-before
filter_edge-requires-clause-before c = level_before c.args.square.now c.args.offset c.requires.before

pub filter_edge-requires-clause-after : goal.filter_edge-requires-clause-after
filter_edge-requires-clause-after c n below = level_fits _ _ _ n c.requires.fits c.requires.offset (omega (arith, below))

pub filter_edge-requires-clause-apart : goal.filter_edge-requires-clause-apart
filter_edge-requires-clause-apart c d m few some below same = level_apart _ _ d m c.requires.fits some below same

pub returns : goal.returns
returns c = level_whole _ _ _ _ _ c.requires.fits c.filter_edge.ensures
