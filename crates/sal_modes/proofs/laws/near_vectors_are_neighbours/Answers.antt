use Rattle.sal_modes.proofs.Suggested.{best_cut_off, nearest_cut_off, near_cut_off}
use Rattle.sal_modes.proofs.laws.near_vectors_are_neighbours.Goals as goal

pub returns-clause-best : goal.returns-clause-best
returns-clause-best c = best_cut_off

pub returns-clause-nearest : goal.returns-clause-nearest
returns-clause-nearest c = nearest_cut_off

pub returns-clause-near : goal.returns-clause-near
returns-clause-near c = near_cut_off
