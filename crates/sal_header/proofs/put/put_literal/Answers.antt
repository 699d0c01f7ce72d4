use Rattle.std.proofs.Common.{refl}
use Rattle.sal_bool.proofs.Putting.{refused, literal_start, literal_put, literal_some, literal_all}
use Rattle.sal_header.proofs.put.put_literal.Goals as goal

pub loop-i-init : goal.loop-i-init
loop-i-init c = literal_start c.args.n c.args.x c.args.encoder.now

pub loop-i-preserved : goal.loop-i-preserved
loop-i-preserved c = literal_put c.args.n c.loop-i.i c.args.x c.loop-i.encoder c.put.new.self _ c.loop-i-test.true refl c.in_ok-put.ensures c.loop-i.invariant

pub returns-in_err-put-clause-some : goal.returns-in_err-put-clause-some
returns-in_err-put-clause-some c = refused _ (literal_some c.args.n c.loop-i.i c.args.x c.loop-i.encoder _ c.loop-i-test.true c.in_err-put.ensures c.loop-i.invariant)

pub returns-clause-all : goal.returns-clause-all
returns-clause-all c = literal_all c.args.n c.loop-i.i c.args.x c.loop-i.encoder c.loop-i-test.false c.loop-i.invariant
