use Rattle.sal_bool.specs.Pairs.{literal_pairs}
use Rattle.sal_bool.proofs.Putting.{refused, left_start, values_put, values_some, values_all}
use Rattle.sal_header.proofs.put.put_bytes.Goals as goal

pub loop-i-init : goal.loop-i-init
loop-i-init c = left_start _ _

pub loop-i-preserved : goal.loop-i-preserved
loop-i-preserved c = values_put (literal_pairs 8) c.args.values.now 0 c.loop-i.i c.loop-i.encoder c.put_literal.new.encoder c.loop-i-test.true c.in_ok-put_literal.ensures.all c.loop-i.invariant

pub returns-in_err-put_literal-clause-some : goal.returns-in_err-put_literal-clause-some
returns-in_err-put_literal-clause-some c = refused _ (values_some (literal_pairs 8) c.args.values.now 0 c.loop-i.i c.loop-i.encoder _ c.loop-i-test.true c.in_err-put_literal.ensures.some c.loop-i.invariant)

pub returns-clause-all : goal.returns-clause-all
returns-clause-all c = values_all (literal_pairs 8) c.args.values.now c.loop-i.i c.loop-i.encoder c.loop-i-test.false c.loop-i.invariant
