use Rattle.std.proofs.Common.{◌≡◌, ◌≤◌, None, is_some}
use Rattle.sal_run.specs.Place.{Carries}
use Rattle.sal_run.proofs.Whole.{SameFault}
use Rattle.sal_run.proofs.input.finish.Given as goal

abbrev pub invariant-loop-picture : goal.invariant-loop-picture
invariant-loop-picture g l = record {
  fault : SameFault l.initial.pictures.head l.initial.feed.room (g.S.Source.left l.initial.pictures.source) l.feed.room (g.S.Source.left l.pictures.source);
  places : Carries l.initial.pictures.place (g.S.Source.left l.initial.pictures.source) l.pictures.place (g.S.Source.left l.pictures.source);
  head : l.pictures.head ≡ l.initial.pictures.head;
  fresh : l.pictures.kept ≡ None;
  later : g.S.Source.faults l.initial.pictures.source ≤ g.S.Source.faults l.pictures.source;
  name : g.S.Source.name l.pictures.source ≡ g.S.Source.name l.initial.pictures.source;
  had : g.S.Source.had l.pictures.source ≡ g.S.Source.had l.initial.pictures.source;
  tells : is_some (g.S.Source.left l.pictures.source) ≡ is_some (g.S.Source.left l.initial.pictures.source);
}

abbrev pub decreases-loop-picture : goal.decreases-loop-picture
decreases-loop-picture g l = l.feed.room
