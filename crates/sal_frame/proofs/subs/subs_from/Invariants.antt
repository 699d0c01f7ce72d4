use Rattle.std.proofs.Common.{◌≡◌, length}
use Rattle.sal_frame.specs.Built.{subs_built}
use Rattle.sal_frame.proofs.subs.subs_from.Given as goal

abbrev pub invariant-loop-n : goal.invariant-loop-n
invariant-loop-n l = record {
  long : length l.samples ≡ 256;
  built : l.samples ≡ subs_built l.edge l.mode l.residues l.n;
}
