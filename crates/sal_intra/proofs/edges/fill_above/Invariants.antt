use Rattle.std.proofs.Common.{◌≡◌, ◌<◌, ◌+◌, ℕ, get_or}
use Rattle.sal_intra.specs.Edges.{above_at}
use Rattle.sal_intra.proofs.edges.fill_above.Given as goal

abbrev pub invariant-loop-i : goal.invariant-loop-i
invariant-loop-i l = (j : ℕ) → j < l.i → get_or l.above j 0 ≡ above_at l.width l.samples (l.x + j) l.y
