use Rattle.std.proofs.Common.{◌≡◌, ◌++◌, length, take, drop}
use Rattle.sal_probs.specs.Probabilities.{replaced}
use Rattle.sal_probs.proofs.replace.replace.Given as goal

abbrev pub invariant-loop-i : goal.invariant-loop-i
invariant-loop-i l = record {
  long : length l.values ≡ length l.fn.values;
  so_far : take l.i l.values ++ replaced (drop l.i l.values) (drop l.i l.updates) ≡ replaced l.fn.values l.fn.updates;
}
