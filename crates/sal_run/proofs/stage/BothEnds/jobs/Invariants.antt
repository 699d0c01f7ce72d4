use Rattle.std.proofs.Common.{◌≤◌, ℕ, List, Option}
use Rattle.sal_y4m.specs.declared.head.Head.{Head}
use Rattle.sal_world.specs.Script.{Run}
use Rattle.sal_run.specs.Running.{IsRunning}
use Rattle.sal_run.proofs.Turns.{JobsLeft}
use Rattle.sal_run.proofs.stage.BothEnds.jobs.Given as goal

abbrev pub invariant-loop-run : goal.invariant-loop-run
invariant-loop-run g l = record {
  jobs : (head : Head) (r : Run g.row.C-State.Denot) (held : Option (List ℕ)) → IsRunning g.C.Codec.coding head l.initial.self.world held r → JobsLeft g.C.Codec.coding head l.late l._run l.self.world held r;
  later : g.J.Diary.faults l.initial.journal ≤ g.J.Diary.faults l.journal;
}
