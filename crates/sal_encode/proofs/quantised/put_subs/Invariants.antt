use Rattle.std.proofs.Common.{[]}
use Rattle.std.specs.Prelude.{slice_index_or}
use Rattle.sal_encode.specs.Standing.{ArePut}
use Rattle.sal_encode.proofs.quantised.put_subs.Given as goal

-- the first k blocks
abbrev pub invariant-loop-k : goal.invariant-loop-k
invariant-loop-k l = ArePut 0 l.k (λ k. slice_index_or l.subs k []) l.fn.coefficients l.coefficients
