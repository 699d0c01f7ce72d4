use Rattle.std.proofs.Common.{sym}
use Rattle.sal_bool.specs.Syntax.{when}
use Rattle.sal_header.specs.Headers.{inter_modes, no_inter_modes}
use Rattle.sal_header.proofs.Values.{run_unless, as_read}
use Rattle.sal_header.proofs.read.inter_modes_when.Goals as goal

pub returns-else-there : goal.returns-else-there
returns-else-there c = record { reads = as_read (when c.args.there inter_modes no_inter_modes) _ no_inter_modes _ _ (run_unless c.args.there inter_modes no_inter_modes _ c.if-there.false) (sym c.no_inter_modes.ensures) }
