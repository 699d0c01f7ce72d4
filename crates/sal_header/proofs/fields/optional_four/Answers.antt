use Rattle.sal_header.specs.Headers.{bytes}
use Rattle.sal_header.proofs.Values.{run_optional, run_none}
use Rattle.sal_header.proofs.fields.optional_four.Goals as goal

pub returns-then-there : goal.returns-then-there
returns-then-there c = record { reads = run_optional 128 (bytes 4) _ _ _ _ _ c.bit-there.ensures.reads c.if-there.true c.four_bytes.ensures.reads }

pub returns-else-there : goal.returns-else-there
returns-else-there c = record { reads = run_none 128 (bytes 4) _ _ _ c.bit-there.ensures.reads c.if-there.false }
