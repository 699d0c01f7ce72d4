use Rattle.std.proofs.Common.{◌≡◌, ◌*◌, ◌≤◌, take}
use Rattle.std.specs.Prelude.{sum}
use Rattle.sal_intra.proofs.whole.total.Given as goal

-- the sum of the samples so far
abbrev pub invariant-loop-sample : goal.invariant-loop-sample
invariant-loop-sample l = record { value : l.total ≡ sum (take l.sample-index l.samples); small : l.total ≤ 255 * l.sample-index }
