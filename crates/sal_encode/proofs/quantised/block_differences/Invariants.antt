use Rattle.std.proofs.Common.{◌≡◌, ◌<◌, ℕ, pos, ◌-ℤ◌, length, get_or}
use Rattle.sal_macroblock.specs.Sizes.{Within}
use Rattle.sal_encode.specs.Quantised.{place_in}
use Rattle.sal_encode.proofs.quantised.block_differences.Given as goal

-- the differences so far are those of their places
abbrev pub invariant-loop-i : goal.invariant-loop-i
invariant-loop-i l = record {
  long : length l.values ≡ 16;
  done : (j : ℕ) → j < l.i → get_or l.values j (pos 0) ≡ pos (get_or l.wanted (place_in l.many l.k j) 0) -ℤ pos (get_or l.predicted (place_in l.many l.k j) 0);
  small : (j : ℕ) → j < l.i → Within 255 (get_or l.values j (pos 0));
}
