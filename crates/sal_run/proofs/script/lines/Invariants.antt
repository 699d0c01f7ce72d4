use Rattle.std.proofs.Common.{◌≡◌, ◌≤◌, None, is_some, false}
use Rattle.sal_world.specs.Script.{Run}
use Rattle.sal_run.specs.Place.{Carries}
use Rattle.sal_run.specs.Running.{IsAt}
use Rattle.sal_run.proofs.Whole.{LinesLeft}
use Rattle.sal_run.proofs.script.lines.Given as goal

abbrev pub invariant-loop-numbered : goal.invariant-loop-numbered
invariant-loop-numbered g l = record {
  left : (r : Run g.row.C-State.Denot) → IsAt g.C.Codec.coding l.initial.pictures.head l.initial.play.stage.world l.initial.play.downs l.initial.play.ups (g.K.Sink.held l.initial.out.sink) r
      → LinesLeft g.C.Codec.coding l.initial.pictures.head l.initial.feed.room (g.S.Source.left l.initial.pictures.source) l.script r l.numbered-index l.feed.room (g.S.Source.left l.pictures.source) l.play.stage.world l.play.downs l.play.ups (g.K.Sink.held l.out.sink);
  places : Carries l.initial.pictures.place (g.S.Source.left l.initial.pictures.source) l.pictures.place (g.S.Source.left l.pictures.source);
  head : l.pictures.head ≡ l.initial.pictures.head;
  fresh : l.pictures.kept ≡ None;
  read_later : g.S.Source.faults l.initial.pictures.source ≤ g.S.Source.faults l.pictures.source;
  name : g.S.Source.name l.pictures.source ≡ g.S.Source.name l.initial.pictures.source;
  had : g.S.Source.had l.pictures.source ≡ g.S.Source.had l.initial.pictures.source;
  tells : is_some (g.S.Source.left l.pictures.source) ≡ is_some (g.S.Source.left l.initial.pictures.source);
  open_ : l.out.failed ≡ false;
  later : g.J.Diary.faults l.initial.journal ≤ g.J.Diary.faults l.journal;
  out_later : g.K.Sink.faults l.initial.out.sink ≤ g.K.Sink.faults l.out.sink;
  out_name : g.K.Sink.name l.out.sink ≡ g.K.Sink.name l.initial.out.sink;
  out_tells : is_some (g.K.Sink.held l.out.sink) ≡ is_some (g.K.Sink.held l.initial.out.sink);
}
