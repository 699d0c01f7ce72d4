use Rattle.std.proofs.Common.{refl}
use Rattle.sal_world.specs.World.{Passes}
use Rattle.sal_run.specs.Loop.{session_of}
use Rattle.sal_run.proofs.Steps.{goes_noted, none_counted, opened, running_next}
use Rattle.sal_run.proofs.events.pass.Goals as goal

pub returns-clause-goes : goal.returns-clause-goes
returns-clause-goes g c head r held is =
    let here = opened g.C.Codec.coding head _ _ held r c.world.view_is is in
    goes_noted g.C.Codec.coding head g.J.Diary.gives _ held _ c.note.result c.note.ensures.gives
    (running_next g.C.Codec.coding head _ _ held r _ tt here (c.pass-now.ensures.answered (session_of head) r.events here.stands).1 (none_counted g.C.Codec.coding head _ _ held r (Passes c.args.moment) tt here refl))
