use Rattle.std.proofs.Common.{arith}
use Rattle.sal_transform.proofs.ForwardLemmas.{entry_first}
use Rattle.sal_transform.proofs.forward_dct.row.Goals as goal

pub returns-clause-first : goal.returns-clause-first
returns-clause-first c = λ h. c.row_pass.ensures.first (entry_first _ _ h (omega arith)) (entry_first _ _ h (omega arith)) (entry_first _ _ h (omega arith)) (entry_first _ _ h (omega arith))
