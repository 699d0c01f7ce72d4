use Rattle.std.proofs.Common.{Some, false, arith}
use Rattle.sal_tokens.specs.Written.{placed}
use Rattle.sal_tokens.proofs.Taking.{left_start, small_at, way_more, way_all}
use Rattle.sal_tokens.proofs.walk.walk_way.Goals as goal

pub loop-step-init : goal.loop-step-init
loop-step-init g c = left_start (g.S.Sink.after c.args.table.now) c.args.sink.now (placed c.args.row (Some c.args.way.now))

pub placed-requires : goal.placed-requires
placed-requires g c =
    let small = small_at c.args.way.now c.loop-step.step-index (0, false) c.requires.way c.loop-step-test.true in
    let row = c.requires.row in
    omega (arith, small, row)

pub loop-step-preserved : goal.loop-step-preserved
loop-step-preserved g c =
    way_more (g.S.Sink.after c.args.table.now) c.loop-step.sink c.placed.new.self c.args.sink.now c.args.row c.args.way.now c.loop-step.step-index (0, false) (placed c.args.row (Some c.args.way.now)) c.loop-step-test.true c.in_ok-placed.ensures c.loop-step.invariant

pub returns : goal.returns
returns g c = way_all (g.S.Sink.after c.args.table.now) c.loop-step.sink c.args.sink.now c.args.row c.args.way.now c.loop-step.step-index (placed c.args.row (Some c.args.way.now)) c.loop-step-test.false c.loop-step.invariant
