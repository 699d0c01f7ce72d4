use Rattle.std.proofs.Common.{◌≡◌, ◌<◌, ℕ, [], pos, length, get_or}
use Rattle.sal_transform.specs.Residue.{residue_after}
use Rattle.sal_transform.proofs.residue.luma_after.Given as goal

abbrev pub invariant-loop-k : goal.invariant-loop-k
invariant-loop-k l = record {
  long : length l.residues ≡ 16;
  done : (j : ℕ) → j < l.k → get_or l.residues j [] ≡ residue_after (get_or l.firsts j (pos 0)) (get_or l.coefficients j []) (pos l.ac);
}
