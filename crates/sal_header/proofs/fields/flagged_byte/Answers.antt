use Rattle.sal_bool.specs.Syntax.{literal}
use Rattle.sal_header.proofs.Values.{run_flagged, run_unflagged}
use Rattle.sal_header.proofs.fields.flagged_byte.Goals as goal

pub returns-then-flag : goal.returns-then-flag
returns-then-flag c = record { reads = run_flagged (literal 8) c.args.otherwise _ _ _ _ _ c.bit-flag.ensures.reads c.if-flag.true c.small.ensures.reads }

pub returns-else-flag : goal.returns-else-flag
returns-else-flag c = record { reads = run_unflagged (literal 8) c.args.otherwise _ _ _ c.bit-flag.ensures.reads c.if-flag.false }
