use Rattle.std.proofs.Common.{◌≡◌, ◌*◌, ◌/◌, ◌%◌, length, get_or}
use Rattle.sal_frame.specs.Built.{sum_cut}
use Rattle.sal_frame.specs.Residues.{residue_at}
use Rattle.sal_frame.proofs.Sums.{RowsDone}
use Rattle.sal_frame.proofs.adding.add_chroma.Given as goal

abbrev pub invariant-loop-row : goal.invariant-loop-row
invariant-loop-row l = record {
  long : length l.samples ≡ 64;
  rows : RowsDone 8 l.row (λ j. sum_cut (get_or l.fn.samples j 0) (residue_at 2 l.residues (j / 8) (j % 8))) (λ j. get_or l.fn.samples j 0) l.samples;
}
