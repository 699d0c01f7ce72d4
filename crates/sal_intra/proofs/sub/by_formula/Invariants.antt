use Rattle.std.proofs.Common.{◌≡◌, ℕ, ◌<◌, ◌/◌, ◌%◌, get_or}
use Rattle.sal_intra.specs.Sub.{sub_sample}
use Rattle.sal_intra.proofs.sub.by_formula.Given as goal

-- the samples so far are those of their places
abbrev pub invariant-loop-k : goal.invariant-loop-k
invariant-loop-k l = (j : ℕ) → j < l.k → get_or l.x-items j 0 ≡ sub_sample l.mode l.edge (j / 4) (j % 4)
