use Rattle.std.proofs.Common.{◌≡◌, ◌≤◌, [], drop}
use Rattle.sal_tokens.specs.Written.{trimmed}
use Rattle.sal_tokens.proofs.walk.end_of.Given as goal

abbrev pub invariant-loop-i : goal.invariant-loop-i
invariant-loop-i l = record {
  low : l.first ≤ l.i;
  none : trimmed (drop l.i l.coefficients) ≡ [];
}
