use Rattle.sal_modes.proofs.Suggested.{best_inside, nearest_inside, near_inside}
use Rattle.sal_modes.proofs.laws.near_vectors_lie_in_bounds.Goals as goal

pub returns-clause-best : goal.returns-clause-best
returns-clause-best c = best_inside

pub returns-clause-nearest : goal.returns-clause-nearest
returns-clause-nearest c = nearest_inside

pub returns-clause-near : goal.returns-clause-near
returns-clause-near c = near_inside
