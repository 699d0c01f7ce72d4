use Rattle.sal_header.specs.Headers.{segment_data}
use Rattle.sal_header.proofs.Values.{run_unless}
use Rattle.sal_header.proofs.read.segment_data_when.Goals as goal

pub returns-else-there : goal.returns-else-there
returns-else-there c = record { reads = run_unless c.args.there segment_data c.args.before.now _ c.if-there.false }
