use Rattle.std.proofs.Common.{arith}
use Rattle.sal_header.specs.Written.{map_pairs}
use Rattle.sal_bool.proofs.Putting.{refused, left_start, values_put, values_some, values_all}
use Rattle.sal_header.proofs.put.put_three_map.Goals as goal

pub loop-i-init : goal.loop-i-init
loop-i-init c = left_start _ _

pub loop-i-preserved : goal.loop-i-preserved
loop-i-preserved c = values_put map_pairs c.args.values.now 0 c.loop-i.i c.loop-i.encoder c.put_map.new.encoder (omega (arith, c.told-values, c.loop-i-test.true)) c.in_ok-put_map.ensures.all c.loop-i.invariant

pub returns-in_err-put_map-clause-some : goal.returns-in_err-put_map-clause-some
returns-in_err-put_map-clause-some c = refused _ (values_some map_pairs c.args.values.now 0 c.loop-i.i c.loop-i.encoder _ (omega (arith, c.told-values, c.loop-i-test.true)) c.in_err-put_map.ensures.some c.loop-i.invariant)

pub returns-clause-all : goal.returns-clause-all
returns-clause-all c = values_all map_pairs c.args.values.now c.loop-i.i c.loop-i.encoder (omega (arith, c.told-values, c.loop-i-test.false)) c.loop-i.invariant
