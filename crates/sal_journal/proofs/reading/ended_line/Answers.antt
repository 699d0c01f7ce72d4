use Rattle.std.proofs.Common.{sym, ◌∙◌}
use Rattle.sal_journal.proofs.LinesRead.{last_end, early_end, says_none, says_some}
use Rattle.sal_journal.proofs.reading.ended_line.Goals as goal

pub returns-then-is_empty : goal.returns-then-is_empty
returns-then-is_empty c text is shorter number = last_end text c.args.line.now c.args.after.now number is (sym c.is_end.ensures ∙ c.if-is_end.true) (sym c.is_empty.ensures ∙ c.if-is_empty.true)

pub returns-else-is_empty : goal.returns-else-is_empty
returns-else-is_empty c text is shorter number = early_end text c.args.line.now c.args.after.now number is (sym c.is_end.ensures ∙ c.if-is_end.true) (sym c.is_empty.ensures ∙ c.if-is_empty.false)

pub returns-in-Some : goal.returns-in-Some
returns-in-Some c text is shorter = (λ number. says_some text c.args.line.now c.args.after.now _ number is (sym c.is_end.ensures ∙ c.if-is_end.false) c.in-Some.ensures, shorter)

pub returns-in-None : goal.returns-in-None
returns-in-None c text is shorter number = says_none text c.args.line.now c.args.after.now number is (sym c.is_end.ensures ∙ c.if-is_end.false) c.in-None.ensures
