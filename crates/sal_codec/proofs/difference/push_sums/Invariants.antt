use Rattle.std.proofs.Common.{◌≡◌, ◌-◌, ◌++◌, length, drop}
use Rattle.sal_codec.specs.Plain.{sums}
use Rattle.sal_codec.proofs.difference.push_sums.Given as goal

-- what is made, and what is left to be made, is all
abbrev pub invariant-loop-at : goal.invariant-loop-at
invariant-loop-at l = l.out.items ++ sums (drop l.at l.samples) (drop l.at l.source) ≡ l.initial.out.items ++ sums l.samples l.source

abbrev pub decreases-loop-at : goal.decreases-loop-at
decreases-loop-at l = length l.samples - l.at
