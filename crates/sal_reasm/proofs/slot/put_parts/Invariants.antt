use Rattle.std.proofs.Common.{◌≡◌, ◌++◌, flat_map, take}
use Rattle.sal_reasm.specs.Step.{data_of}
use Rattle.sal_reasm.proofs.slot.put_parts.Given as goal

abbrev pub invariant-loop-part : goal.invariant-loop-part
invariant-loop-part l = l.out.items ≡ l.fn.out.items ++ flat_map data_of (take l.part-index l.parts)
