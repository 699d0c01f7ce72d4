use Rattle.std.proofs.Common.{drop}
use Rattle.sal_bool.specs.Pairs.{flagged_pairs, all_pairs}
use Rattle.sal_bool.proofs.Putting.{Left}
use Rattle.sal_header.proofs.put.put_four_flagged.Given as goal

abbrev pub invariant-loop-i : goal.invariant-loop-i
invariant-loop-i l = Left l.encoder (all_pairs (flagged_pairs l.n) (drop l.i l.values)) l.fn.encoder (all_pairs (flagged_pairs l.n) l.fn.values)
