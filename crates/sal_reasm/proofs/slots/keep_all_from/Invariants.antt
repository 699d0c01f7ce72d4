use Rattle.std.proofs.Common.{◌≡◌, ◌++◌, map, take, drop}
use Rattle.sal_reasm.specs.Step.{unless_below}
use Rattle.sal_reasm.proofs.slots.keep_all_from.Given as goal

abbrev pub invariant-loop-there : goal.invariant-loop-there
invariant-loop-there l = l.frames ≡ map (unless_below l.floor) (take l.there-index l.fn.frames) ++ drop l.there-index l.fn.frames
