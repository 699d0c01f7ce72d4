use Rattle.std.proofs.Common.{arith}
use Rattle.sal_bool.proofs.Settling.{shift_full}
use Rattle.sal_bool.proofs.range.missing_doublings.Goals as goal

pub returns-clause-full : goal.returns-clause-full
returns-clause-full c = (shift_full c.args.range c.requires.positive (omega arith)).1

pub returns-clause-small : goal.returns-clause-small
returns-clause-small c = (shift_full c.args.range c.requires.positive (omega arith)).2
