use Rattle.sal_filter.proofs.Places.{outer_value, outer_stays}
use Rattle.sal_filter.proofs.edge.outer_moved.Goals as goal

pub returns-clause-value : goal.returns-clause-value
returns-clause-value c = outer_value _ _ _ _ _ c.requires.sort c.is_filtered.ensures c.has_high_variance.ensures c.outer_where.ensures.value

pub returns-clause-signed : goal.returns-clause-signed
returns-clause-signed c = outer_stays _ _ _ _ c.requires.signed c.outer_where.ensures.value
