use Rattle.std.proofs.Common.{replicate}
use Rattle.sal_header.specs.Headers.{segment_map}
use Rattle.sal_header.proofs.Values.{run_unless}
use Rattle.sal_header.proofs.read.segment_map_when.Goals as goal

pub returns-else-there : goal.returns-else-there
returns-else-there c = record { reads = run_unless c.args.there segment_map (replicate 3 0) _ c.if-there.false }
