use Rattle.std.proofs.Common.{arith}
use Rattle.sal_y4m.proofs.ParameterLemmas.{go_on, stop_at, all_done}
use Rattle.sal_y4m.proofs.parameters.all.Goals as goal

pub returns-in_err-settings : goal.returns-in_err-settings
returns-in_err-settings c = stop_at _ c.in_err-settings.field-0.0 _ _ _ c.from_residual.result c.loop-at.invariant c.step.ensures c.in_err-settings.was c.from_residual.ensures.1

pub loop-at-preserved : goal.loop-at-preserved
loop-at-preserved c = go_on _ _ _ _ _ c.loop-at.invariant c.step.ensures c.in_ok-settings.was

pub returns : goal.returns
returns c = all_done c.args.text.now c.loop-at.at _ _ (omega arith) c.loop-at.invariant
