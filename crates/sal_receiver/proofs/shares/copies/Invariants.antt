use Rattle.std.proofs.Common.{◌≡◌, length}
use Rattle.std.specs.Arc.{arc_value}
use Rattle.sal_receiver.specs.Shared.{AreOf}
use Rattle.sal_receiver.proofs.shares.copies.Given as goal

abbrev pub invariant-loop : goal.invariant-loop
invariant-loop g l = record {
  count : length l.others.items ≡ l.counter;
  same : AreOf (arc_value l.first) l.others.items;
}
