use Rattle.std.specs.Arc.{arc_value}
use Rattle.sal_world.specs.World.{Starts}
use Rattle.sal_world.proofs.Stepped.{session_size}
use Rattle.sal_run.specs.Loop.{session_of}
use Rattle.sal_run.proofs.Steps.{lacking_stops, did_stand, did_answer, start_counted, goes_noted, opened, running_next}
use Rattle.sal_run.proofs.events.start.Goals as goal

pub next_picture-requires-clause-size : goal.next_picture-requires-clause-size
next_picture-requires-clause-size g c κs within =
    let here = opened g.C.Codec.coding c.requires.runs.0 _ _ c.requires.runs.1.1.0 c.requires.runs.1.0 c.world.view_is c.requires.runs.1.1.1.0 in
    session_size g.C.Codec.coding (session_of c.requires.runs.0) _ c.requires.runs.1.0.events (arc_value c.args.picture) here.stands c.requires.runs.1.1.1.1

pub returns-in-Memory-clause-goes : goal.returns-in-Memory-clause-goes
returns-in-Memory-clause-goes g c head r held is size = lacking_stops g.C.Codec.coding head g.J.Diary.gives _ held r (Starts (arc_value c.args.picture)) is

pub returns-in_default-clause-goes : goal.returns-in_default-clause-goes
returns-in_default-clause-goes g c head r held is size =
    let here = opened g.C.Codec.coding head _ _ held r c.world.view_is is in
    let happened = c.next_picture.ensures.answered (session_of head) r.events here.stands in
    let picture = arc_value c.args.picture in
    goes_noted g.C.Codec.coding head g.J.Diary.gives _ held _ c.note.result c.note.ensures.gives
    (running_next g.C.Codec.coding head _ _ held r _ tt here (did_stand g.C.Codec.coding head _ _ _ _ r.events (Starts picture) c.in_default.not-Memory happened)
    (start_counted g.C.Codec.coding head _ _ held r picture _ here (did_answer g.C.Codec.coding head _ _ _ _ r.events (Starts picture) c.in_default.not-Memory happened) c.start.ensures))
