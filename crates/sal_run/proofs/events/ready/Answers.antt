use Rattle.std.proofs.Common.{refl, sym, ap, ◌∙◌}
use Rattle.sal_world.specs.World.{TakesReady, WorldPast}
use Rattle.sal_world.specs.HandedOut.{next_frame}
use Rattle.sal_run.specs.Loop.{session_of}
use Rattle.sal_run.proofs.Steps.{note_exit, none_counted, opened, running_next}
use Rattle.sal_run.proofs.events.ready.Goals as goal

pub returns-in_err-note-clause-goes : goal.returns-in_err-note-clause-goes
returns-in_err-note-clause-goes g c head r held is = note_exit g.C.Codec.coding head g.J.Diary.gives _ _ held r _ c.from_residual.result _ c.from_residual.ensures.1 c.in_err-note.ensures.gives is

pub returns-clause-goes : goal.returns-clause-goes
returns-clause-goes g c head r held is =
    let here = opened g.C.Codec.coding head _ _ held r c.world.view_is is in
    running_next g.C.Codec.coding head _ _ held r _ tt here (c.take_ready-frame.ensures.answered (session_of head) r.events here.stands).1 (none_counted g.C.Codec.coding head _ _ held r TakesReady tt here refl)

pub returns-clause-frame : goal.returns-clause-frame
returns-clause-frame g c head r held is =
    let here = opened g.C.Codec.coding head _ _ held r c.world.view_is is in
    ap (λ (w : WorldPast _). next_frame g.C.Codec.coding w.receiver) is.world ∙ sym (c.take_ready-frame.ensures.answered (session_of head) r.events here.stands).0
