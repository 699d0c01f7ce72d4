use Rattle.std.proofs.Common.{drop}
use Rattle.sal_modes.specs.Written.{bits_at_pairs}
use Rattle.sal_modes.proofs.PuttingModes.{Rest}
use Rattle.sal_modes.proofs.write_vectors.put_bits_at.Given as goal

abbrev pub invariant-loop-place : goal.invariant-loop-place
invariant-loop-place l = Rest l.encoder (bits_at_pairs l.probabilities (drop l.place-index l.places) l.number) l.fn.encoder (bits_at_pairs l.probabilities l.places l.number)
