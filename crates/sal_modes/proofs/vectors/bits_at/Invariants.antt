use Rattle.std.proofs.Common.{◌≡◌, ◌≤◌, ◌+◌, ◌*◌, drop}
use Rattle.sal_bool.specs.Syntax.{run}
use Rattle.sal_modes.specs.ReadVectors.{bits_at}
use Rattle.sal_modes.proofs.vectors.bits_at.Given as goal

abbrev pub invariant-loop-place : goal.invariant-loop-place
invariant-loop-place l = record {
  small : l.value ≤ l.start + 512 * l.place-index;
  reads : run (bits_at l.probabilities (drop l.place-index l.places) l.value) l.decoder ≡ run (bits_at l.probabilities l.places l.start) l.fn.decoder;
}
