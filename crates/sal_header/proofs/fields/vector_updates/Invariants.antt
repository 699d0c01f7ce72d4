use Rattle.std.proofs.Common.{◌≡◌, length, take}
use Rattle.sal_bool.specs.Syntax.{optional}
use Rattle.sal_header.specs.Headers.{vector_value}
use Rattle.sal_header.proofs.Values.{IsReadUpTo}
use Rattle.sal_header.proofs.fields.vector_updates.Given as goal

abbrev pub invariant-loop-i : goal.invariant-loop-i
invariant-loop-i l = record {
  long : length l.updates ≡ 38;
  reads : IsReadUpTo (λ p. optional p (vector_value)) l.probabilities l.i l.fn.decoder (take l.i l.updates) l.decoder;
}
