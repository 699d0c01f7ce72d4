use Rattle.std.proofs.Common.{[], ap, ◌∙◌}
use Rattle.sal_world.specs.Script.{begun}
use Rattle.sal_run.specs.Clip.{most}
use Rattle.sal_run.proofs.Whole.{lines_gives, finish_gives, note_stops, well_gives}
use Rattle.sal_run.proofs.run.play_all.Goals as goal

pub returns-in_err-lines-clause-gives : goal.returns-in_err-lines-clause-gives
returns-in_err-lines-clause-gives g c =
    lines_gives g.C.Codec.coding c.args.pictures.now.head c.args.script.now g.J.Diary.gives c.args.pictures.now.place _ _ _ _ c.from_residual.result _ (c.most.ensures ∙ ap most c.head.ensures) c.lines-said.ensures c.from_residual.ensures.1 (c.in_err-lines.ensures.goes (begun []) c.requires.runs)

pub returns-in_err-finish-clause-gives : goal.returns-in_err-finish-clause-gives
returns-in_err-finish-clause-gives g c =
    finish_gives g.C.Codec.coding c.args.pictures.now.head c.args.script.now g.J.Diary.gives c.args.pictures.now.place c.lines.new.pictures.place _ _ _ _ _ (g.S.Source.left c.finish.new.pictures.source) _ _ _ _ _ c.from_residual-in_err-finish.result _ c.in_ok-lines.ensures.head (c.most.ensures ∙ ap most c.head.ensures) c.lines-said.ensures c.in_ok-lines.ensures.tells
    (c.in_ok-lines.ensures.goes (begun []) c.requires.runs) c.from_residual-in_err-finish.ensures.1 c.in_ok-lines.ensures.places c.in_err-finish.ensures.told

pub returns-in_err-note-clause-gives : goal.returns-in_err-note-clause-gives
returns-in_err-note-clause-gives g c =
    note_stops g.C.Codec.coding c.args.pictures.now.head c.args.script.now g.J.Diary.gives c.args.pictures.now.place _ _ _ _ _ _ _ _ _ c.from_residual-in_err-note.result _ (c.most.ensures ∙ ap most c.head.ensures) c.lines-said.ensures c.in_ok-lines.ensures.tells
    (c.in_ok-lines.ensures.goes (begun []) c.requires.runs) c.from_residual-in_err-note.ensures.1 c.in_err-note.ensures.gives

pub returns-clause-gives : goal.returns-clause-gives
returns-clause-gives g c =
    well_gives g.C.Codec.coding c.args.pictures.now.head c.args.script.now g.J.Diary.gives c.args.pictures.now.place c.lines.new.pictures.place _ _ _ _ _ _ _ _ _ _ _ c.summary.result c.in_ok-lines.ensures.head (c.most.ensures ∙ ap most c.head.ensures) c.lines-said.ensures c.in_ok-lines.ensures.tells
    (c.in_ok-lines.ensures.goes (begun []) c.requires.runs) c.in_ok-finish.ensures.told c.summary.ensures
