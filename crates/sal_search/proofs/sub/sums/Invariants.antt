use Rattle.std.proofs.Common.{◌≡◌, ◌<◌, ℕ, pos, ◌+ℤ◌, get_or}
use Rattle.sal_base.specs.Samples.{clamped}
use Rattle.sal_search.proofs.sub.sums.Given as goal

-- the samples so far are those of their places
abbrev pub invariant-loop-k : goal.invariant-loop-k
invariant-loop-k l = (j : ℕ) → j < l.k → get_or l.sample-items j 0 ≡ clamped (pos (get_or l.predicted j 0) +ℤ get_or l.residues j (pos 0))
