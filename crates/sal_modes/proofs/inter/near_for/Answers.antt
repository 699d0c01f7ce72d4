use Rattle.std.proofs.Common.{subst, sym}
use Rattle.sal_modes.specs.Around.{Around}
use Rattle.sal_modes.specs.Vectors.{AreNear}
use Rattle.sal_modes.proofs.CountLemmas.{counts_small}
use Rattle.sal_modes.proofs.InterLemmas.{best_near}
use Rattle.sal_modes.proofs.inter.near_for.Goals as goal

pub returns-clause-row : goal.returns-clause-row
returns-clause-row c = (best_near _ _ _ _ _ c.near_vectors.result (subst (λ (a : Around). AreNear a.bounds) (sym c.around.view_is) c.requires) c.near_vectors.ensures).0

pub returns-clause-column : goal.returns-clause-column
returns-clause-column c = (best_near _ _ _ _ _ c.near_vectors.result (subst (λ (a : Around). AreNear a.bounds) (sym c.around.view_is) c.requires) c.near_vectors.ensures).1

pub returns-clause-counts : goal.returns-clause-counts
returns-clause-counts c = counts_small _ _ _ _ _ c.near_vectors.result c.near_vectors.ensures
