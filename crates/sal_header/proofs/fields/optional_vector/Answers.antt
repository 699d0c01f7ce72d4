use Rattle.sal_header.specs.Headers.{vector_value}
use Rattle.sal_header.proofs.Values.{run_optional, run_none}
use Rattle.sal_header.proofs.fields.optional_vector.Goals as goal

pub returns-then-there : goal.returns-then-there
returns-then-there c = record { reads = run_optional c.args.probability (vector_value) _ _ _ _ _ c.bit-there.ensures.reads c.if-there.true c.vector_value.ensures.reads }

pub returns-else-there : goal.returns-else-there
returns-else-there c = record { reads = run_none c.args.probability (vector_value) _ _ _ c.bit-there.ensures.reads c.if-there.false }
