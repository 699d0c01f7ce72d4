use Rattle.sal_world.specs.World.{Chooses}
use Rattle.sal_run.specs.Loop.{session_of}
use Rattle.sal_run.proofs.Steps.{lacking_stops, did_stand, did_answer, choice_counted, goes_noted, opened, running_next}
use Rattle.sal_run.proofs.events.choose.Goals as goal

pub choose-requires-clause-stands : goal.choose-requires-clause-stands
choose-requires-clause-stands g c κs within =
    let here = opened g.C.Codec.coding c.requires.runs.0 _ _ c.requires.runs.1.1.0 c.requires.runs.1.0 c.world.view_is c.requires.runs.1.1.1 in
    (session_of c.requires.runs.0, (c.requires.runs.1.0.events, here.stands))

pub returns-in-Memory-clause-goes : goal.returns-in-Memory-clause-goes
returns-in-Memory-clause-goes g c head r held is = lacking_stops g.C.Codec.coding head g.J.Diary.gives _ held r (Chooses) is

pub returns-in_default-clause-goes : goal.returns-in_default-clause-goes
returns-in_default-clause-goes g c head r held is =
    let here = opened g.C.Codec.coding head _ _ held r c.world.view_is is in
    let happened = c.choose.ensures.answered (session_of head) r.events here.stands in
    goes_noted g.C.Codec.coding head g.J.Diary.gives _ held _ c.note.result c.note.ensures.gives
    (running_next g.C.Codec.coding head _ _ held r _ tt here (did_stand g.C.Codec.coding head _ _ _ _ r.events (Chooses) c.in_default.not-Memory happened)
    (choice_counted g.C.Codec.coding head _ _ held r _ here (did_answer g.C.Codec.coding head _ _ _ _ r.events (Chooses) c.in_default.not-Memory happened) c.choose-in_default.ensures))
