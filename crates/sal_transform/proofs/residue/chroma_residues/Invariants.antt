use Rattle.std.proofs.Common.{◌≡◌, ◌<◌, ◌+◌, ℕ, [], pos, length, get_or}
use Rattle.sal_transform.specs.Residue.{residue_of}
use Rattle.sal_transform.proofs.residue.chroma_residues.Given as goal

abbrev pub invariant-loop-k : goal.invariant-loop-k
invariant-loop-k l = record {
  long : length l.residues ≡ 4;
  done : (j : ℕ) → j < l.k → get_or l.residues j [] ≡ residue_of (get_or l.coefficients (l.first + j) []) (pos l.dc) (pos l.ac);
}
