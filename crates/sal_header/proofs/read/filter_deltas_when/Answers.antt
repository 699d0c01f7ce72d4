use Rattle.sal_header.specs.Headers.{filter_deltas}
use Rattle.sal_header.proofs.Values.{run_unless}
use Rattle.sal_header.proofs.read.filter_deltas_when.Goals as goal

pub returns-else-there : goal.returns-else-there
returns-else-there c = record { reads = run_unless c.args.there (filter_deltas c.args.before.now) c.args.before.now _ c.if-there.false }
