use Rattle.std.proofs.Common.{◌-◌}
use Rattle.sal_modes.specs.Written.{subs_pairs}
use Rattle.sal_modes.proofs.PuttingModes.{Rest}
use Rattle.sal_modes.proofs.write_intra.put_subs.Given as goal

abbrev pub invariant-loop-k : goal.invariant-loop-k
invariant-loop-k l = Rest l.encoder (subs_pairs l.key l.around l.modes l.k (16 - l.k)) l.fn.encoder (subs_pairs l.key l.around l.modes 0 16)
