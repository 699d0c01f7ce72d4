use Rattle.std.proofs.Common.{Ok, Err, subst}
use Rattle.sal_y4m.specs.Answers.{Counts}
use Rattle.sal_app.specs.Stops.{HeadGives}
use Rattle.sal_app.proofs.LoopLemmas.{script_stops, head_stops, ran, ran_to_end}
use Rattle.sal_app.proofs.looping.run_loop.Goals as goal

pub returns-in-Err-clause-gives : goal.returns-in-Err-clause-gives
returns-in-Err-clause-gives g c = script_stops g.C.Codec.coding c.in-Err.stop _ _ _ (g.T.Source.left c.read_lines.new.script) _ c.requires.nothing c.in-Err.ensures.told

pub returns-in-Err-read_head-clause-gives : goal.returns-in-Err-read_head-clause-gives
returns-in-Err-read_head-clause-gives g c =
    head_stops g.C.Codec.coding c.in-Err-read_head.stop c.read_head.new.pictures.head c.in-Ok.lines _ (g.S.Source.left c.read_head.new.pictures.source) _ (g.T.Source.left c.read_lines.new.script) _
    c.requires.nothing (subst (λ n. HeadGives n (g.S.Source.left c.args.pictures.now.source) (g.S.Source.left c.read_head.new.pictures.source) c.read_head.new.pictures.head (Err c.in-Err-read_head.stop)) c.requires.start c.in-Err-read_head.ensures.told) c.in-Ok.ensures.told

pub returns-clause-gives : goal.returns-clause-gives
returns-clause-gives g c =
    ran g.C.Codec.coding c.run_alone-end.result c.run_stop.result c.read_head.new.pictures.head c.in-Ok.lines _ _ (g.S.Source.left c.read_head.new.pictures.source) _ _ (g.T.Source.left c.read_lines.new.script) _
    c.run_stop.ensures
    (subst (λ n. Counts n c.read_head.new.pictures.place (g.S.Source.left c.args.pictures.now.source) (g.S.Source.left c.read_head.new.pictures.source)) c.requires.start c.in_default.ensures.count)
    (subst (λ n. HeadGives n (g.S.Source.left c.args.pictures.now.source) (g.S.Source.left c.read_head.new.pictures.source) c.read_head.new.pictures.head (Ok tt)) c.requires.start c.in_default.ensures.told) c.in-Ok.ensures.told c.run_alone-end.ensures.gives

pub returns-clause-end : goal.returns-clause-end
returns-clause-end g c = ran_to_end c.run_alone-end.result c.run_stop.result _ c.run_stop.ensures c.run_alone-end.ensures.end
