use Rattle.std.proofs.Common.{◌≡◌, ◌+◌, ◌*◌, ◌≤◌, ◌++◌, take, flat_map, vec_len, vec_capacity}
use Rattle.sal_wire.specs.Layout.{state_bytes}
use Rattle.sal_wire.proofs.writing.put_states.Given as goal

abbrev pub invariant-loop-state : goal.invariant-loop-state
invariant-loop-state l = (l.out.items ≡ l.initial.out.items ++ flat_map state_bytes (take l.state-index l.held)) × (vec_len l.out ≡ vec_len l.initial.out + 12 * l.state-index) × (vec_capacity l.initial.out ≤ vec_capacity l.out)
