use Rattle.std.proofs.Common.{◌≡◌, ◌<◌, ℕ, pos, length, get_or}
use Rattle.std.specs.Prelude.{slice_index_or}
use Rattle.sal_macroblock.specs.Sizes.{Within}
use Rattle.sal_encode.specs.Quantised.{luma_block, block_values}
use Rattle.sal_encode.specs.Standing.{ArePut}
use Rattle.sal_encode.proofs.quantised.put_luma.Given as goal

-- the first k blocks, and their first values
abbrev pub invariant-loop-k : goal.invariant-loop-k
invariant-loop-k l = record {
  put : ArePut 0 l.k (luma_block l.factors l.wanted l.predicted) l.fn.coefficients l.coefficients;
  long : length l.firsts ≡ 16;
  done : (j : ℕ) → j < l.k → get_or l.firsts j (pos 0) ≡ slice_index_or (block_values 4 l.wanted l.predicted j) 0 (pos 0);
  small : (j : ℕ) → j < l.k → Within 2040 (get_or l.firsts j (pos 0));
}
