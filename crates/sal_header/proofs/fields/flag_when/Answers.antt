use Rattle.sal_bool.specs.Syntax.{flag}
use Rattle.std.proofs.Common.{false}
use Rattle.sal_header.proofs.Values.{run_unless}
use Rattle.sal_header.proofs.fields.flag_when.Goals as goal

pub returns-else-there : goal.returns-else-there
returns-else-there c = record { reads = run_unless c.args.there flag false _ c.if-there.false }
