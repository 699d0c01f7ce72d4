use Rattle.std.proofs.Common.{◌≡◌, ℕ, ◌<◌, ◌/◌, ◌%◌, get_or}
use Rattle.sal_intra.specs.Intra.{by_mode}
use Rattle.sal_intra.proofs.whole.square.Given as goal

-- the samples so far are those of their places
abbrev pub invariant-loop-k : goal.invariant-loop-k
invariant-loop-k l = (j : ℕ) → j < l.k → get_or l.sample-items j 0 ≡ by_mode l.mode l.dc (get_or l.above (j % 16) 0) (get_or l.left (j / 16) 0) l.corner
