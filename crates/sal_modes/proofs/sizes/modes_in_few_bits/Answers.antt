use Rattle.sal_modes.proofs.ModeBounds.{mb_short}
use Rattle.sal_modes.proofs.sizes.modes_in_few_bits.Goals as goal

pub returns : goal.returns
returns c = mb_short
