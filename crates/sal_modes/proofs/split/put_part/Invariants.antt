use Rattle.sal_modes.proofs.SplitLemmas.{IsPutUpTo}
use Rattle.sal_modes.proofs.split.put_part.Given as goal

abbrev pub invariant-loop-k : goal.invariant-loop-k
invariant-loop-k l = IsPutUpTo l.partition l.part l.vector l.fn.vectors l.k l.vectors
