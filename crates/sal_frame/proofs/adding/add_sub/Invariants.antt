use Rattle.std.proofs.Common.{◌≡◌, ◌<◌, ◌≤◌, ℕ, pos, get_or}
use Rattle.sal_frame.specs.Built.{sum_cut}
use Rattle.sal_frame.proofs.adding.add_sub.Given as goal

abbrev pub invariant-loop-k : goal.invariant-loop-k
invariant-loop-k l = record {
  done : (j : ℕ) → j < l.k → get_or l.samples j 0 ≡ sum_cut (get_or l.fn.samples j 0) (get_or l.residue j (pos 0));
  left : (j : ℕ) → l.k ≤ j → get_or l.samples j 0 ≡ get_or l.fn.samples j 0;
}
