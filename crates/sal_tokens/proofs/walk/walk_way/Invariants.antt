use Rattle.std.proofs.Common.{Some, drop}
use Rattle.sal_tokens.specs.Written.{placed}
use Rattle.sal_tokens.proofs.Taking.{Left}
use Rattle.sal_tokens.proofs.walk.walk_way.Given as goal

abbrev pub invariant-loop-step : goal.invariant-loop-step
invariant-loop-step g l = Left (g.S.Sink.after l.table) l.sink (placed l.row (Some (drop l.step-index l.way))) l.fn.sink (placed l.row (Some l.fn.way))
