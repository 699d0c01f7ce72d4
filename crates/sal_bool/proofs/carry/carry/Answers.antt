use Rattle.std.proofs.Common.{arith}
use Rattle.sal_bool.proofs.Places.{carried, settled_carry}
use Rattle.sal_bool.proofs.carry.carry.Goals as goal

pub loop-i-preserved : goal.loop-i-preserved
loop-i-preserved c = carried c.loop-i.out c.loop-i.i _ c.loop-i-test.true (omega (arith, c.loop-i.auto.out)) c.if-out-i.true c.loop-i.invariant

pub returns-else-out-i : goal.returns-else-out-i
returns-else-out-i c = settled_carry c.loop-i.out c.loop-i.i _ c.loop-i-test.true (omega (arith, c.loop-i.auto.out)) c.loop-i.invariant
