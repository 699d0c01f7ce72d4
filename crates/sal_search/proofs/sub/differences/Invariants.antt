use Rattle.std.proofs.Common.{◌≡◌, ◌<◌, ℕ, pos, ◌-ℤ◌, length, get_or}
use Rattle.sal_macroblock.specs.Sizes.{Within}
use Rattle.sal_search.proofs.sub.differences.Given as goal

-- the differences so far are those of their places
abbrev pub invariant-loop-k : goal.invariant-loop-k
invariant-loop-k l = record {
  long : length l.values ≡ 16;
  done : (j : ℕ) → j < l.k → get_or l.values j (pos 0) ≡ pos (get_or l.wanted j 0) -ℤ pos (get_or l.predicted j 0);
  small : (j : ℕ) → j < l.k → Within 255 (get_or l.values j (pos 0));
}
