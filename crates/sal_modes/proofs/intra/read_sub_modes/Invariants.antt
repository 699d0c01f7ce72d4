use Rattle.std.proofs.Common.{◌≡◌, ◌-◌, length, take, []}
use Rattle.sal_bool.specs.Syntax.{run}
use Rattle.sal_modes.specs.IntraModes.{sub_modes}
use Rattle.sal_modes.proofs.intra.read_sub_modes.Given as goal

abbrev pub invariant-loop-k : goal.invariant-loop-k
invariant-loop-k l = record {
  long : length l.modes ≡ 16;
  reads : run (sub_modes l.key l.around (16 - l.k) (take l.k l.modes)) l.decoder ≡ run (sub_modes l.key l.around 16 []) l.fn.decoder;
}
