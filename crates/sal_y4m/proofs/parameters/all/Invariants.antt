use Rattle.std.proofs.Common.{◌≡◌, drop}
use Rattle.sal_y4m.specs.Parameters.{parameters, all_set, unset}
use Rattle.sal_y4m.proofs.parameters.all.Given as goal

abbrev pub invariant-loop-at : goal.invariant-loop-at
invariant-loop-at l = all_set (parameters (drop l.at l.text)) l.settings ≡ all_set (parameters l.text) unset
