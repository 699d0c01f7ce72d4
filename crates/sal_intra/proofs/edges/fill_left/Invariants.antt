use Rattle.std.proofs.Common.{◌≡◌, ◌<◌, ◌+◌, ℕ, get_or}
use Rattle.sal_intra.specs.Edges.{left_at}
use Rattle.sal_intra.proofs.edges.fill_left.Given as goal

abbrev pub invariant-loop-i : goal.invariant-loop-i
invariant-loop-i l = (j : ℕ) → j < l.i → get_or l.left j 0 ≡ left_at l.width l.samples l.x (l.y + j)
