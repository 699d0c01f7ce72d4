use Rattle.std.proofs.Common.{◌≡◌}
use Rattle.sal_base.specs.Samples.{rows_put}
use Rattle.sal_search.proofs.subblocks.put_sub.Given as goal

abbrev pub invariant-loop-row : goal.invariant-loop-row
invariant-loop-row l = l.samples ≡ rows_put 16 l.x l.y 4 l.sub l.row l.fn.samples
