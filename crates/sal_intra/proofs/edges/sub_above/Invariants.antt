use Rattle.std.proofs.Common.{◌≡◌, ◌<◌, ◌+◌, ℕ, get_or}
use Rattle.sal_intra.specs.Edges.{inner_above}
use Rattle.sal_intra.proofs.edges.sub_above.Given as goal

abbrev pub invariant-loop-i : goal.invariant-loop-i
invariant-loop-i l = (j : ℕ) → j < l.i → get_or l.sample-items j 0 ≡ inner_above l.edge l.built (l.x + j) l.y
