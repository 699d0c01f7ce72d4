use Rattle.std.proofs.Common.{◌≡◌, length, take}
use Rattle.sal_bool.specs.Syntax.{optional, literal}
use Rattle.sal_header.proofs.Values.{IsReadUpTo}
use Rattle.sal_header.proofs.fields.coefficient_updates.Given as goal

abbrev pub invariant-loop-i : goal.invariant-loop-i
invariant-loop-i l = record {
  long : length l.updates ≡ 1056;
  reads : IsReadUpTo (λ p. optional p (literal 8)) l.probabilities l.i l.fn.decoder (take l.i l.updates) l.decoder;
}
