use Rattle.sal_encode.specs.Quantised.{chroma_block}
use Rattle.sal_encode.specs.Standing.{ArePut}
use Rattle.sal_encode.proofs.quantised.put_chroma.Given as goal

-- the first k blocks
abbrev pub invariant-loop-k : goal.invariant-loop-k
invariant-loop-k l = ArePut l.first l.k (chroma_block l.factors l.wanted l.predicted) l.fn.coefficients l.coefficients
