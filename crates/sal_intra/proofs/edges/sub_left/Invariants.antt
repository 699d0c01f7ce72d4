use Rattle.std.proofs.Common.{◌≡◌, ◌<◌, ◌+◌, ℕ, get_or}
use Rattle.sal_intra.specs.Edges.{inner_left}
use Rattle.sal_intra.proofs.edges.sub_left.Given as goal

abbrev pub invariant-loop-i : goal.invariant-loop-i
invariant-loop-i l = (j : ℕ) → j < l.i → get_or l.sample-items j 0 ≡ inner_left l.edge l.built l.x (l.y + j)
