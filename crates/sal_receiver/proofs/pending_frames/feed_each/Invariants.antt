use Rattle.std.proofs.Common.{◌≡◌, ◌≤◌, map, take, drop}
use Rattle.sal_receiver.specs.Pending.{frame_unshared, fed, wanting}
use Rattle.sal_receiver.proofs.pending_frames.feed_each.Given as goal

abbrev pub invariant-loop-p : goal.invariant-loop-p
invariant-loop-p g l = record {
  done : map frame_unshared (take l.p-index l.items) ≡ fed l.name.0 l.initial.shares.state (map frame_unshared (take l.p-index l.initial.items));
  rest : drop l.p-index l.items ≡ drop l.p-index l.initial.items;
  state : l.shares.state ≡ l.initial.shares.state;
  enough : wanting l.name.0 (drop l.p-index l.items) ≤ l.shares.others;
}
