use Rattle.std.proofs.Common.{false, refl, arith, Some}
use Rattle.sal_bool.specs.Pairs.{taken}
use Rattle.sal_modes.proofs.PuttingModes.{below_at, way_more, way_all}
use Rattle.sal_modes.proofs.put.put_way.Goals as goal

pub bounds-probabilities-step : goal.bounds-probabilities-step
bounds-probabilities-step c = below_at _ c.args.way.now c.loop-step.step-index (0, false) c.requires c.loop-step-test.true

pub loop-step-preserved : goal.loop-step-preserved
loop-step-preserved c =
    way_more c.args.probabilities.now c.args.way.now c.loop-step.step-index (0, false) _ (taken c.args.probabilities.now (Some c.args.way.now)) c.loop-step.encoder c.put.new.self c.args.encoder.now c.loop-step-test.true refl (omega arith) c.in_ok-put.ensures c.loop-step.invariant

pub returns : goal.returns
returns c = way_all c.args.probabilities.now c.args.way.now c.loop-step.step-index (taken c.args.probabilities.now (Some c.args.way.now)) c.loop-step.encoder c.args.encoder.now c.loop-step-test.false c.loop-step.invariant
