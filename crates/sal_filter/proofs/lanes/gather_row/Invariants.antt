use Rattle.std.proofs.Common.{◌≡◌, ℕ, ◌+◌, ◌*◌, ◌<◌, slice_index}
use Rattle.sal_filter.specs.Lanes.{lane}
use Rattle.sal_filter.proofs.lanes.gather_row.Given as goal

abbrev pub invariant-loop-i : goal.invariant-loop-i
invariant-loop-i l = record {
  gathered : (j : ℕ) → j < l.i → lane l.lanes l.row j ≡ slice_index l.samples (l.from + j * l.along);
  kept : (j : ℕ) → j < 8 * l.row → slice_index l.lanes j ≡ slice_index l.fn.lanes j;
}
