use Rattle.std.proofs.Common.{drop}
use Rattle.sal_bool.specs.Pairs.{all_pairs}
use Rattle.sal_header.specs.Written.{delta_pairs}
use Rattle.sal_bool.proofs.Putting.{Left}
use Rattle.sal_header.proofs.put.put_four_deltas.Given as goal

abbrev pub invariant-loop-i : goal.invariant-loop-i
invariant-loop-i l = Left l.encoder (all_pairs delta_pairs (drop l.i l.values)) l.fn.encoder (all_pairs delta_pairs l.fn.values)
