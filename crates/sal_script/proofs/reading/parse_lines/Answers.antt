use Rattle.std.proofs.Common.{arith}
use Rattle.std.proofs.lemmas.Bool.Decides.{nat_tests}
use Rattle.sal_script.proofs.JudgeLemmas.{all_said}
use Rattle.sal_script.proofs.reading.parse_lines.Goals as goal

pub returns-clause-said : goal.returns-clause-said
returns-clause-said c = all_said _ _ _ _ _ c.loop-rest.invariant (grind (arith, nat_tests))
