use Rattle.std.proofs.Common.{◌-◌, replicate}
use Rattle.sal_bool.specs.Pairs.{number_pairs, literal_pairs}
use Rattle.sal_bool.proofs.Putting.{Left}
use Rattle.sal_header.proofs.put.put_literal.Given as goal

abbrev pub invariant-loop-i : goal.invariant-loop-i
invariant-loop-i l = Left l.encoder (number_pairs (replicate (l.n - l.i) 128) l.x) l.fn.encoder (literal_pairs l.n l.x)
