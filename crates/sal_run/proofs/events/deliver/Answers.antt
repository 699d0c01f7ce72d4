use Rattle.std.proofs.Common.{refl}
use Rattle.sal_world.specs.World.{Delivers}
use Rattle.sal_run.specs.Loop.{session_of}
use Rattle.sal_run.proofs.Steps.{lacking_stops, did_stand, goes_noted, none_counted, opened, running_next}
use Rattle.sal_run.proofs.events.deliver.Goals as goal

pub returns-then-is_memory-clause-goes : goal.returns-then-is_memory-clause-goes
returns-then-is_memory-clause-goes g c head r held is = lacking_stops g.C.Codec.coding head g.J.Diary.gives _ held r (Delivers c.args.which) is

pub returns-clause-goes : goal.returns-clause-goes
returns-clause-goes g c head r held is =
    let here = opened g.C.Codec.coding head _ _ held r c.world.view_is is in
    goes_noted g.C.Codec.coding head g.J.Diary.gives _ held _ c.note.result c.note.ensures.gives
    (running_next g.C.Codec.coding head _ _ held r _ tt here (did_stand g.C.Codec.coding head _ _ _ _ r.events (Delivers c.args.which) (c.is_memory.ensures c.if-is_memory.false) (c.deliver-answer.ensures.answered (session_of head) r.events here.stands))
    (none_counted g.C.Codec.coding head _ _ held r (Delivers c.args.which) tt here refl))
