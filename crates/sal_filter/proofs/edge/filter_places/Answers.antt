use Rattle.sal_filter.proofs.Places.{edge_none, edge_more}
use Rattle.sal_filter.proofs.edge.filter_places.Goals as goal

pub loop-n-init : goal.loop-n-init
loop-n-init c = edge_none _ _ _ _ _

pub loop-n-preserved : goal.loop-n-preserved
loop-n-preserved c = edge_more _ _ _ _ _ _ _ _ c.loop-n.invariant c.filter_place.ensures
