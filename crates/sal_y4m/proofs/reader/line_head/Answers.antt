use Rattle.std.proofs.Common.{◌-◌, length}
use Rattle.sal_y4m.proofs.HeadLemmas.{ok_is_head, err_within}
use Rattle.sal_y4m.proofs.reader.line_head.Goals as goal

pub overflow_sub-line : goal.overflow_sub-line
overflow_sub-line c = err_within _ (length c.args.line.now - 9) 9 c.args.line.now c.in-Err.flaw c.head_of.ensures c.in-Err.is

pub returns-in-Ok-clause-legal : goal.returns-in-Ok-clause-legal
returns-in-Ok-clause-legal c = ok_is_head _ _ c.in-Ok.head c.head_of.ensures c.in-Ok.is
