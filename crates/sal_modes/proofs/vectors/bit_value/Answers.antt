use Rattle.sal_modes.proofs.VectorLemmas.{bit_small}
use Rattle.sal_modes.proofs.vectors.bit_value.Goals as goal

pub returns-then-bit-clause-small : goal.returns-then-bit-clause-small
returns-then-bit-clause-small c = bit_small c.args.place c.requires
