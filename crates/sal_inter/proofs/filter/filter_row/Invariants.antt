use Rattle.std.proofs.Common.{◌≡◌, ℕ, ◌<◌, get_or}
use Rattle.sal_inter.specs.Taps.{weighed_at}
use Rattle.sal_inter.proofs.filter.filter_row.Given as goal

-- the samples so far are those of their places
abbrev pub invariant-loop-k : goal.invariant-loop-k
invariant-loop-k l = (j : ℕ) → j < l.k → get_or l.out j 0 ≡ weighed_at l.taps l.samples l.step j
