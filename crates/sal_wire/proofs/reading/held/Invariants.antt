use Rattle.sal_wire.proofs.HeldLemmas.{IsFar}
use Rattle.sal_wire.proofs.reading.held.Given as goal

abbrev pub invariant-loop-i : goal.invariant-loop-i
invariant-loop-i l = IsFar l.bytes l.i l.before l.held
