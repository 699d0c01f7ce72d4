use Rattle.std.proofs.Common.{drop}
use Rattle.sal_bool.specs.Pairs.{literal_pairs, all_pairs}
use Rattle.sal_bool.proofs.Putting.{Left}
use Rattle.sal_header.proofs.put.put_bytes.Given as goal

abbrev pub invariant-loop-i : goal.invariant-loop-i
invariant-loop-i l = Left l.encoder (all_pairs (literal_pairs 8) (drop l.i l.values)) l.fn.encoder (all_pairs (literal_pairs 8) l.fn.values)
