use Rattle.std.proofs.Common.{true, not, ap, ◌∙◌}
use Rattle.sal_world.specs.World.{Decodes}
use Rattle.sal_run.specs.Loop.{session_of}
use Rattle.sal_run.proofs.Steps.{lacking_stops, opened, decoded_goes}
use Rattle.sal_run.proofs.events.decoded.Goals as goal

pub returns-then-lacked_memory-clause-goes : goal.returns-then-lacked_memory-clause-goes
returns-then-lacked_memory-clause-goes g c head r is handed = lacking_stops g.C.Codec.coding head g.J.Diary.gives _ _ r (Decodes c.args.decoding.handed.number true) is

pub decoded-done-requires-clause-may : goal.decoded-done-requires-clause-may
decoded-done-requires-clause-may g c κs within =
    let here = opened g.C.Codec.coding c.requires.runs.0 _ _ _ c.requires.runs.1.0 c.world.view_is c.requires.runs.1.1.0 in
    (session_of c.requires.runs.0, (c.requires.runs.1.0.events, (here.stands, c.requires.runs.1.1.1)))

pub returns-clause-goes : goal.returns-clause-goes
returns-clause-goes g c head r is handed =
    let here = opened g.C.Codec.coding head _ _ _ r c.world.view_is is in
    let did = c.decoded-done.ensures.answered (session_of head) r.events here.stands handed in
    decoded_goes g.C.Codec.coding head g.J.Diary.gives _ _ _ _ r c.args.decoding.handed.number _ _ c.show-2.result c.show-2.ensures.out_tells (c.lacked_memory.ensures ∙ ap not c.if-lacked_memory.false) here did.0 did.1 c.show.ensures c.show-2.ensures.shows
