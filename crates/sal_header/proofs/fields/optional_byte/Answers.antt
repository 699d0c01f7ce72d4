use Rattle.sal_bool.specs.Syntax.{literal}
use Rattle.sal_header.proofs.Values.{run_optional, run_none}
use Rattle.sal_header.proofs.fields.optional_byte.Goals as goal

pub returns-then-there : goal.returns-then-there
returns-then-there c = record { reads = run_optional c.args.probability (literal 8) _ _ _ _ _ c.bit-there.ensures.reads c.if-there.true c.small.ensures.reads }

pub returns-else-there : goal.returns-else-there
returns-else-there c = record { reads = run_none c.args.probability (literal 8) _ _ _ c.bit-there.ensures.reads c.if-there.false }
