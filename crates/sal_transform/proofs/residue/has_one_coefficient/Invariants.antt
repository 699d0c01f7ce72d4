use Rattle.std.proofs.Common.{◌≡◌, ◌<◌, ◌≤◌, ℕ, pos, get_or}
use Rattle.sal_transform.proofs.residue.has_one_coefficient.Given as goal

abbrev pub invariant-loop-k : goal.invariant-loop-k
invariant-loop-k l = (j : ℕ) → 1 ≤ j → j < l.k → get_or l.block.0 j (pos 0) ≡ pos 0
