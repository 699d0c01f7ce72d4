use Rattle.std.proofs.Common.{drop}
use Rattle.sal_bool.specs.Pairs.{number_pairs}
use Rattle.sal_tokens.specs.Written.{fixed}
use Rattle.sal_tokens.proofs.Taking.{Left}
use Rattle.sal_tokens.proofs.walk.walk_number.Given as goal

abbrev pub invariant-loop-i : goal.invariant-loop-i
invariant-loop-i g l = Left (g.S.Sink.after l.table) l.sink (fixed (number_pairs (drop l.i l.probabilities) l.number)) l.fn.sink (fixed (number_pairs l.probabilities l.number))
