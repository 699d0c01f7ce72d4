use Rattle.std.proofs.Common.{◌≡◌, ◌<◌, ◌≤◌, ℕ, get_or}
use Rattle.sal_frame.specs.Built.{sum_cut}
use Rattle.sal_frame.specs.Residues.{residue_at}
use Rattle.sal_frame.proofs.adding.add_row.Given as goal

abbrev pub invariant-loop-column : goal.invariant-loop-column
invariant-loop-column l = record {
  done : (j : ℕ) → j < l.column → get_or l.line j 0 ≡ sum_cut (get_or l.fn.line j 0) (residue_at l.many l.residues l.row j);
  left : (j : ℕ) → l.column ≤ j → get_or l.line j 0 ≡ get_or l.fn.line j 0;
}
