use Rattle.std.proofs.Common.{◌≡◌, ◌≤◌, ◌<◌, ◌*◌, take}
use Rattle.sal_search.specs.Costs.{sad}
use Rattle.sal_search.proofs.sad.sad_below.Given as goal

-- the sum so far, which is below the limit
abbrev pub invariant-loop-part : goal.invariant-loop-part
invariant-loop-part l = record {
  value : l.total ≡ sad (take (64 * l.part) l.xs) (take (64 * l.part) l.ys);
  small : l.total ≤ 16320 * l.part;
  below : 1 ≤ l.part → l.total < l.limit;
}
