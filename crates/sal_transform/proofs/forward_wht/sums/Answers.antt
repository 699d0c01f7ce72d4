use Rattle.std.proofs.Common.{arith}
use Rattle.std.proofs.lemmas.Int.{ints}
use Rattle.sal_transform.specs.Hadamard.{sum_0, sum_1, sum_2, sum_3}
use Rattle.sal_transform.proofs.forward_wht.sums.Goals as goal

pub returns-clause-y0 : goal.returns-clause-y0
unfolding sum_0
returns-clause-y0 c = (omega (arith, ints), (omega (arith, ints), omega (arith, ints)))

pub returns-clause-y1 : goal.returns-clause-y1
unfolding sum_1
returns-clause-y1 c = (omega (arith, ints), (omega (arith, ints), omega (arith, ints)))

pub returns-clause-y2 : goal.returns-clause-y2
unfolding sum_2
returns-clause-y2 c = (omega (arith, ints), (omega (arith, ints), omega (arith, ints)))

pub returns-clause-y3 : goal.returns-clause-y3
unfolding sum_3
returns-clause-y3 c = (omega (arith, ints), (omega (arith, ints), omega (arith, ints)))
