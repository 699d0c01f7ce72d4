use Rattle.std.proofs.Common.{◌≡◌, ◌<◌, ◌+◌, ◌/◌, ◌%◌, ℕ, get_or}
use Rattle.sal_intra.specs.Edges.{sample_at}
use Rattle.sal_search.proofs.sub.sub_square.Given as goal

-- the samples so far are those of their places
abbrev pub invariant-loop-k : goal.invariant-loop-k
invariant-loop-k l = (j : ℕ) → j < l.k → get_or l.sample-items j 0 ≡ sample_at 16 l.samples (l.x + j % 4) (l.y + j / 4)
