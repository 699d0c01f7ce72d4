use Rattle.std.proofs.Common.{◌≤◌, ℕ, List, Option}
use Rattle.sal_y4m.specs.declared.head.Head.{Head}
use Rattle.sal_world.specs.Script.{Run, up, up_all}
use Rattle.sal_run.specs.Loop.{session_of}
use Rattle.sal_run.specs.Running.{IsAt}
use Rattle.sal_run.proofs.Walks.{Left}
use Rattle.sal_run.proofs.play.Play.up_all.Given as goal

abbrev pub invariant-loop-at : goal.invariant-loop-at
invariant-loop-at g l = record {
  walk : (head : Head) (r : Run g.row.C-State.Denot) (held : Option (List ℕ)) → IsAt g.C.Codec.coding head l.initial.self.stage.world l.initial.self.downs l.initial.self.ups held r
      → Left g.C.Codec.coding head g.J.Diary.gives (up g.C.Codec.coding (session_of head)) l.last l.at l.self.ups l.self.stage.world l.self.downs l.self.ups held (up_all g.C.Codec.coding (session_of head) r);
  later : g.J.Diary.faults l.initial.journal ≤ g.J.Diary.faults l.journal;
}
