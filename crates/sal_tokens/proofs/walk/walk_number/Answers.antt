use Rattle.std.proofs.Common.{refl, arith}
use Rattle.sal_bool.specs.Pairs.{number_pairs}
use Rattle.sal_tokens.specs.Written.{fixed}
use Rattle.sal_tokens.proofs.Taking.{number_more, number_all}
use Rattle.sal_tokens.proofs.walk.walk_number.Goals as goal

pub loop-i-preserved : goal.loop-i-preserved
loop-i-preserved g c =
    number_more (g.S.Sink.after c.args.table.now) c.loop-i.sink c.fixed.new.self c.args.sink.now c.args.probabilities.now c.args.number c.loop-i.i _ _ (fixed (number_pairs c.args.probabilities.now c.args.number)) c.loop-i-test.true refl (omega arith) refl c.in_ok-fixed.ensures c.loop-i.invariant

pub returns : goal.returns
returns g c = number_all (g.S.Sink.after c.args.table.now) c.loop-i.sink c.args.sink.now c.args.probabilities.now c.args.number c.loop-i.i (fixed (number_pairs c.args.probabilities.now c.args.number)) c.loop-i-test.false c.loop-i.invariant
