use Rattle.std.proofs.Common.{arith}
use Rattle.sal_tables.proofs.Ranges.{at_most, in_range_at}
use Rattle.sal_transform.proofs.factors.ac_factor.Goals as goal

pub returns-clause-small : goal.returns-clause-small
returns-clause-small c = at_most 4 284 c.ac_steps.result.now c.cut_off.result c.ac_steps.ensures.range

pub returns-clause-some : goal.returns-clause-some
returns-clause-some c = let low = (in_range_at 4 284 c.ac_steps.result.now c.cut_off.result c.ac_steps.ensures.range (omega arith)).0 in omega arith
