use Rattle.std.proofs.Common.{◌≡◌, ◌≤◌, is_some, false}
use Rattle.sal_y4m.specs.declared.head.Head.{Head}
use Rattle.sal_world.specs.Script.{Run}
use Rattle.sal_run.specs.Running.{IsRunning}
use Rattle.sal_run.proofs.Turns.{FramesLeft}
use Rattle.sal_run.proofs.stage.BothEnds.frames.Given as goal

abbrev pub invariant-loop-round : goal.invariant-loop-round
invariant-loop-round g l = record {
  frames : (head : Head) (r : Run g.row.C-State.Denot) → IsRunning g.C.Codec.coding head l.initial.self.world (g.K.Sink.held l.initial.out.sink) r → FramesLeft g.C.Codec.coding head l._round-end l._round l.self.world (g.K.Sink.held l.out.sink) r;
  open_ : l.out.failed ≡ false;
  later : g.J.Diary.faults l.initial.journal ≤ g.J.Diary.faults l.journal;
  out_later : g.K.Sink.faults l.initial.out.sink ≤ g.K.Sink.faults l.out.sink;
  out_name : g.K.Sink.name l.out.sink ≡ g.K.Sink.name l.initial.out.sink;
  out_tells : is_some (g.K.Sink.held l.out.sink) ≡ is_some (g.K.Sink.held l.initial.out.sink);
}
