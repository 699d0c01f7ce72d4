use Rattle.std.proofs.Common.{◌+◌, arith, length-drop}
use Rattle.sal_y4m.proofs.ParameterLemmas.{past_other, past_space}
use Rattle.sal_y4m.proofs.parameters.step.Goals as goal

pub returns-then-text-at-ne32 : goal.returns-then-text-at-ne32
returns-then-text-at-ne32 c = past_other c.args.text.now c.args.at _ (omega arith) c.if-text-at-ne32.true

pub returns : goal.returns
returns c = past_space c.args.text.now c.args.at _ _ _ (omega arith) c.if-text-at-ne32.false (omega (arith, length-drop (c.args.at + 1) c.args.text.now)) c.first.ensures
