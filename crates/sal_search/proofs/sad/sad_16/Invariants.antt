use Rattle.std.proofs.Common.{◌≡◌, ◌≤◌, ◌*◌, take}
use Rattle.sal_search.specs.Costs.{sad}
use Rattle.sal_search.proofs.sad.sad_16.Given as goal

-- the sum so far
abbrev pub invariant-loop-k : goal.invariant-loop-k
invariant-loop-k l = record {
  value : l.total ≡ sad (take l.k l.xs) (take l.k l.ys);
  small : l.total ≤ 255 * l.k;
}
