use Rattle.sal_macroblock.proofs.CoefficientLemmas.{none_small}
use Rattle.sal_macroblock.proofs.coefficients.Coefficients.none.Goals as goal

pub invariant_of-result : goal.invariant_of-result
invariant_of-result c = none_small
