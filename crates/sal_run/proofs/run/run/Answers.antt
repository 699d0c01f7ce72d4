use Rattle.std.proofs.Common.{subst}
use Rattle.sal_world.specs.Script.{begun}
use Rattle.std.proofs.Common.{[]}
use Rattle.sal_run.specs.Ends.{RunGives}
use Rattle.sal_run.specs.Stops.{end_of}
use Rattle.sal_run.specs.Running.{IsAt}
use Rattle.sal_run.proofs.Whole.{run_exit}
use Rattle.sal_run.proofs.run.run.Goals as goal

pub returns-in_err-play-clause-gives : goal.returns-in_err-play-clause-gives
returns-in_err-play-clause-gives g c =
    run_exit g.C.Codec.coding c.args.pictures.now.head c.args.script.now g.J.Diary.gives c.args.pictures.now.place (g.S.Source.left c.args.pictures.now.source) _ c.from_residual.result _ c.from_residual.ensures.1
    (subst (λ h. RunGives g.C.Codec.coding h c.args.script.now g.J.Diary.gives c.args.pictures.now.place (end_of c.in_err-play.field-0.0) (g.S.Source.left c.args.pictures.now.source) (g.K.Sink.held c.begin.new.out.sink)) c.head.ensures (c.in_err-play.ensures.stopped c.args.script.now c.args.pictures.now.place (g.S.Source.left c.args.pictures.now.source)))

pub play_all-requires-clause-runs : goal.play_all-requires-clause-runs
play_all-requires-clause-runs g c κs within = subst (λ h. IsAt g.C.Codec.coding h c.in_ok-play.play.stage.world c.in_ok-play.play.downs c.in_ok-play.play.ups (g.K.Sink.held c.begin.new.out.sink) (begun [])) c.head.ensures c.in_ok-play.ensures.begun

pub returns-clause-gives : goal.returns-clause-gives
returns-clause-gives g c = c.play_all.ensures.gives
