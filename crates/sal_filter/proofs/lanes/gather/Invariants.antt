use Rattle.std.proofs.Common.{◌≡◌, ℕ, ◌+◌, ◌*◌, ◌<◌, slice_index}
use Rattle.sal_filter.specs.Lanes.{lane}
use Rattle.sal_filter.proofs.lanes.gather.Given as goal

abbrev pub invariant-loop-k : goal.invariant-loop-k
invariant-loop-k l = (r i : ℕ) → r < l.k → i < 8 → lane l.lanes r i ≡ slice_index l.samples (l.from + r * l.step + i * l.along)
