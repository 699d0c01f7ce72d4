use Rattle.std.proofs.Common.{◌≡◌, ◌+◌, ◌-◌, ◌^◌, length}
use Rattle.sal_bool.specs.Written.{value}
use Rattle.sal_bool.proofs.carry.carry.Given as goal

abbrev pub invariant-loop-i : goal.invariant-loop-i
invariant-loop-i l = value l.out + 256 ^ (length l.out - l.i) ≡ value l.fn.out + 256 ^ (length l.fn.out - l.end)
