use Rattle.std.proofs.Common.{◌≡◌, ◌<◌, ℕ}
use Rattle.sal_macroblock.specs.Macroblocks.{vector_at}
use Rattle.sal_frame.proofs.inter.are_one.Given as goal

abbrev pub invariant-loop-k : goal.invariant-loop-k
invariant-loop-k l = (j : ℕ) → j < l.k → vector_at l.vectors j ≡ vector_at l.vectors 0
