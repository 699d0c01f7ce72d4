use Rattle.sal_filter.proofs.Places.{inner_value, inner_stays}
use Rattle.sal_filter.proofs.edge.inner_moved.Goals as goal

pub returns-clause-value : goal.returns-clause-value
returns-clause-value c = inner_value _ _ _ _ _ c.requires.sort c.is_filtered.ensures c.has_high_variance.ensures c.inner_where.ensures.value

pub returns-clause-signed : goal.returns-clause-signed
returns-clause-signed c = inner_stays _ _ _ _ c.requires.signed c.inner_where.ensures.value
