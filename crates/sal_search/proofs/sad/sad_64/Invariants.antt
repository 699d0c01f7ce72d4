use Rattle.std.proofs.Common.{◌≡◌, ◌≤◌, ◌*◌, take}
use Rattle.sal_search.specs.Costs.{sad}
use Rattle.sal_search.proofs.sad.sad_64.Given as goal

-- the sum so far
abbrev pub invariant-loop-row : goal.invariant-loop-row
invariant-loop-row l = record {
  value : l.total ≡ sad (take (16 * l.row) l.xs) (take (16 * l.row) l.ys);
  small : l.total ≤ 4080 * l.row;
}
