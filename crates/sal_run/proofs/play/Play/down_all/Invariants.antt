use Rattle.std.proofs.Common.{◌≡◌, ◌≤◌, is_some, false}
use Rattle.sal_y4m.specs.declared.head.Head.{Head}
use Rattle.sal_world.specs.Script.{Run, down, down_all}
use Rattle.sal_run.specs.Loop.{session_of}
use Rattle.sal_run.specs.Running.{IsAt}
use Rattle.sal_run.proofs.Walks.{Left}
use Rattle.sal_run.proofs.play.Play.down_all.Given as goal

abbrev pub invariant-loop-at : goal.invariant-loop-at
invariant-loop-at g l = record {
  walk : (head : Head) (r : Run g.row.C-State.Denot) → IsAt g.C.Codec.coding head l.initial.self.stage.world l.initial.self.downs l.initial.self.ups (g.K.Sink.held l.initial.out.sink) r
      → Left g.C.Codec.coding head g.J.Diary.gives (down g.C.Codec.coding (session_of head)) l.last l.at l.self.downs l.self.stage.world l.self.downs l.self.ups (g.K.Sink.held l.out.sink) (down_all g.C.Codec.coding (session_of head) r);
  open_ : l.out.failed ≡ false;
  later : g.J.Diary.faults l.initial.journal ≤ g.J.Diary.faults l.journal;
  out_later : g.K.Sink.faults l.initial.out.sink ≤ g.K.Sink.faults l.out.sink;
  out_name : g.K.Sink.name l.out.sink ≡ g.K.Sink.name l.initial.out.sink;
  out_tells : is_some (g.K.Sink.held l.out.sink) ≡ is_some (g.K.Sink.held l.initial.out.sink);
}
