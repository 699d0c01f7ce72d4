use Rattle.std.proofs.Common.{Some, drop}
use Rattle.sal_bool.specs.Pairs.{taken}
use Rattle.sal_modes.proofs.PuttingModes.{Rest}
use Rattle.sal_modes.proofs.put.put_way.Given as goal

abbrev pub invariant-loop-step : goal.invariant-loop-step
invariant-loop-step l = Rest l.encoder (taken l.probabilities (Some (drop l.step-index l.way))) l.fn.encoder (taken l.probabilities (Some l.way))
