use Rattle.std.proofs.Common.{sym, subst}
use Rattle.sal_filter.specs.Edges.{AreSigned}
use Rattle.sal_filter.proofs.Places.{simple_signed, simple_left, simple_done}
use Rattle.sal_filter.proofs.edge.simple_moved.Goals as goal

pub returns-then-is_near-clause-value : goal.returns-then-is_near-clause-value
returns-then-is_near-clause-value c = simple_done _ _ _ _ c.requires.sort c.is_near.ensures c.if-is_near.true c.simple.ensures.value

pub returns-then-is_near-clause-signed : goal.returns-then-is_near-clause-signed
returns-then-is_near-clause-signed c = subst AreSigned (sym c.simple.ensures.value) (simple_signed _ c.requires.signed)

pub returns-else-is_near-clause-value : goal.returns-else-is_near-clause-value
returns-else-is_near-clause-value c = simple_left _ _ _ c.requires.sort c.is_near.ensures c.if-is_near.false
