use Rattle.std.proofs.Common.{◌≡◌, replicate, None}
use Rattle.sal_reasm.proofs.slots.no_frames.Given as goal

abbrev pub invariant-loop : goal.invariant-loop
invariant-loop l = l.frames.items ≡ replicate l.counter None
