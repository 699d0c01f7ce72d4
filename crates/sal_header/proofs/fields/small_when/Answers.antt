use Rattle.sal_bool.specs.Syntax.{literal}
use Rattle.sal_header.proofs.Values.{run_unless}
use Rattle.sal_header.proofs.fields.small_when.Goals as goal

pub returns-else-there : goal.returns-else-there
returns-else-there c = record { reads = run_unless c.args.there (literal c.args.n) 0 _ c.if-there.false }
