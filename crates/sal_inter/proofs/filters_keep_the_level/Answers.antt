use Rattle.std.proofs.Common.{refl}
use Rattle.sal_tables.specs.Tables.{six_taps_of}
use Rattle.sal_inter.proofs.filters_keep_the_level.Goals as goal

pub returns : goal.returns
unfolding six_taps_of
returns c = refl
