use Rattle.std.proofs.Common.{◌≡◌, map, take}
use Rattle.sal_chain.specs.Held.{number_and_name}
use Rattle.sal_chain.proofs.stored_states.numbers_and_names.Given as goal

abbrev pub invariant-loop-k : goal.invariant-loop-k
invariant-loop-k g l = l.out ≡ map number_and_name (take l.k-index l.items)
