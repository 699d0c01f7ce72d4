use Rattle.std.proofs.Common.{◌∷◌, refl, subst}
use Rattle.sal_sender.specs.declared.outcome.Gave.{Gave}
use Rattle.sal_sender.specs.JobWork.{encoded, given}
use Rattle.sal_world.specs.World.{Reports}
use Rattle.sal_world.specs.Stands.{Stands}
use Rattle.sal_run.specs.Loop.{session_of}
use Rattle.sal_run.proofs.Steps.{lacking_stops, goes_noted, none_counted, opened, running_next}
use Rattle.sal_run.proofs.events.report.Goals as goal

pub returns-in_default-clause-goes : goal.returns-in_default-clause-goes
returns-in_default-clause-goes g c head r held is handed = lacking_stops g.C.Codec.coding head g.J.Diary.gives _ held r (Reports c.args.report.work.id (given (encoded g.C.Codec.coding c.args.report.work))) is

pub report-answer-requires-clause-may : goal.report-answer-requires-clause-may
report-answer-requires-clause-may g c κs within =
    let here = opened g.C.Codec.coding c.requires.runs.0 _ _ c.requires.runs.1.1.0 c.requires.runs.1.0 c.world.view_is c.requires.runs.1.1.1.0 in
    (session_of c.requires.runs.0, (c.requires.runs.1.0.events, (here.stands, c.requires.runs.1.1.1.1)))

pub returns-clause-goes : goal.returns-clause-goes
returns-clause-goes g c head r held is handed =
    let here = opened g.C.Codec.coding head _ _ held r c.world.view_is is in
    let did = λ (gave : Gave). Reports c.args.report.work.id gave in
    let stands = subst (λ (gave : Gave). Stands g.C.Codec.coding (session_of head) c.report-answer.new.self (did gave ∷ r.events)) c.in-Some.ensures.gave (c.report-answer.ensures.answered (session_of head) r.events here.stands handed).1 in
    goes_noted g.C.Codec.coding head g.J.Diary.gives _ held _ c.note.result c.note.ensures.gives
    (running_next g.C.Codec.coding head _ _ held r _ tt here stands (none_counted g.C.Codec.coding head _ _ held r (did (given (encoded g.C.Codec.coding c.args.report.work))) tt here refl))
