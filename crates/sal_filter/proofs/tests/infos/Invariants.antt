use Rattle.std.proofs.Common.{◌≡◌, ◌≤◌, length, All}
use Rattle.sal_filter.proofs.tests.infos.Given as goal

abbrev pub invariant-loop-k : goal.invariant-loop-k
invariant-loop-k l = (length l.infos.items ≡ l.k) × All (λ m. m.mode.segment ≤ 3) l.infos.items
