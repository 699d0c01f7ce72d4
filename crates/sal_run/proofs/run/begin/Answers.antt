use Rattle.std.proofs.Common.{[]}
use Rattle.sal_run.specs.Ends.{RunGives}
use Rattle.sal_run.specs.Stops.{end_of}
use Rattle.sal_run.proofs.Whole.{nothing_memory, header_noted, open_stops, begun_here, if_err}
use Rattle.sal_run.proofs.run.begin.Goals as goal

pub returns-in_err-play-clause-stopped : goal.returns-in_err-play-clause-stopped
returns-in_err-play-clause-stopped g c script before i =
    if_err (λ stop. RunGives g.C.Codec.coding c.args.head script g.J.Diary.gives before (end_of stop) i (g.K.Sink.held c.args.out.now.sink)) c.from_residual.result _ c.from_residual.ensures.1
    (nothing_memory g.C.Codec.coding c.args.head script g.J.Diary.gives before i _ _ c.in_err-play.ensures.memory c.requires.nothing)

pub returns-in_err-note-clause-stopped : goal.returns-in_err-note-clause-stopped
returns-in_err-note-clause-stopped g c script before i =
    if_err (λ stop. RunGives g.C.Codec.coding c.args.head script g.J.Diary.gives before (end_of stop) i (g.K.Sink.held c.open.new.out.sink)) c.from_residual-in_err-note.result _ c.from_residual-in_err-note.ensures.1
    (header_noted g.C.Codec.coding c.args.head script g.J.Diary.gives before i _ _ _ c.in_err-note.ensures.gives c.open.ensures.out_tells c.requires.nothing c.in_ok-open.ensures.opened)

pub returns-in_err-open-clause-stopped : goal.returns-in_err-open-clause-stopped
returns-in_err-open-clause-stopped g c script before i =
    if_err (λ stop. RunGives g.C.Codec.coding c.args.head script g.J.Diary.gives before (end_of stop) i (g.K.Sink.held c.open.new.out.sink)) c.from_residual-in_err-open.result _ c.from_residual-in_err-open.ensures.1
    (open_stops g.C.Codec.coding c.args.head script g.J.Diary.gives before i _ _ _ c.open.ensures.out_tells c.requires.nothing c.in_err-open.ensures.opened)

pub returns-clause-begun : goal.returns-clause-begun
returns-clause-begun g c =
    begun_here g.C.Codec.coding c.args.head [] g.J.Diary.gives 0 _ _ _ _ _ c.in_ok-play.ensures.stands c.in_ok-play.ensures.counts c.in_ok-play.ensures.downs c.in_ok-play.ensures.ups c.open.ensures.out_tells c.requires.nothing c.in_ok-open.ensures.opened
