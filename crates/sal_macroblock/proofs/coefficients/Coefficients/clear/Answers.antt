use Rattle.sal_macroblock.proofs.CoefficientLemmas.{none_small}
use Rattle.sal_macroblock.proofs.coefficients.Coefficients.clear.Goals as goal

pub invariant_of-self : goal.invariant_of-self
invariant_of-self c = none_small
