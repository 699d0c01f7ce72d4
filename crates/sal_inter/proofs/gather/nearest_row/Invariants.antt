use Rattle.std.proofs.Common.{◌≡◌, ℕ, ◌<◌, get_or, ◌+ℤ◌, pos}
use Rattle.sal_inter.specs.Windows.{nearest}
use Rattle.sal_inter.proofs.gather.nearest_row.Given as goal

-- the samples so far are those of their places
abbrev pub invariant-loop-k : goal.invariant-loop-k
invariant-loop-k l = (j : ℕ) → j < l.k → get_or l.out j 0 ≡ nearest l.samples (l.left +ℤ pos j)
