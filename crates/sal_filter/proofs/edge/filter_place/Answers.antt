use Rattle.sal_filter.proofs.Places.{place_done}
use Rattle.sal_filter.proofs.edge.filter_place.Goals as goal

pub returns : goal.returns
returns c = place_done _ _ _ _ _ _ _ c.around.ensures.value c.place_moved-moved.ensures.value c.put.ensures
