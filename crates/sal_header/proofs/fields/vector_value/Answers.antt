use Rattle.sal_bool.specs.Syntax.{literal}
use Rattle.sal_header.specs.Headers.{vector_probability}
use Rattle.sal_header.proofs.Values.{run_made, value_of_zero, value_of_more}
use Rattle.sal_header.proofs.fields.vector_value.Goals as goal

pub returns-then-x-eq0 : goal.returns-then-x-eq0
returns-then-x-eq0 c = record { reads = run_made (literal 7) (λ x. vector_probability x) _ _ _ _ c.small-x.ensures.reads (value_of_zero _ c.if-x-eq0.true) }

pub returns-else-x-eq0 : goal.returns-else-x-eq0
returns-else-x-eq0 c = record { reads = run_made (literal 7) (λ x. vector_probability x) _ _ _ _ c.small-x.ensures.reads (value_of_more _ c.if-x-eq0.false) }
