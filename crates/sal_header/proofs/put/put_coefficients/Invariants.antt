use Rattle.std.proofs.Common.{drop}
use Rattle.sal_bool.specs.Pairs.{each_pairs, optional_pairs, literal_pairs}
use Rattle.sal_bool.proofs.Putting.{Left}
use Rattle.sal_header.proofs.put.put_coefficients.Given as goal

abbrev pub invariant-loop-i : goal.invariant-loop-i
invariant-loop-i l = Left l.encoder (each_pairs (λ p u. optional_pairs p (literal_pairs 8) u) (drop l.i l.probabilities) (drop l.i l.updates)) l.fn.encoder (each_pairs (λ p u. optional_pairs p (literal_pairs 8) u) l.probabilities l.fn.updates)
