use Rattle.std.proofs.Common.{refl, sym, ap, ◌∙◌, subst}
use Rattle.std.specs.Prelude.{IsSome}
use Rattle.sal_world.specs.World.{TakesJob, WorldPast}
use Rattle.sal_world.specs.HandedOut.{next_job}
use Rattle.sal_run.specs.Loop.{session_of}
use Rattle.sal_run.proofs.Steps.{note_exit, none_counted, opened, running_next}
use Rattle.sal_run.proofs.events.take.Goals as goal

pub unwrap-job-requires : goal.unwrap-job-requires
unwrap-job-requires g c =
    let head = c.requires.runs.0 in
    let r = c.requires.runs.1.0 in
    let is = opened g.C.Codec.coding head _ _ _ r c.world.view_is c.requires.runs.1.1.1.0 in
    subst (λ o. IsSome o) (ap (λ (w : WorldPast _). next_job g.C.Codec.coding w.sender) is.world ∙ sym (c.take_job.ensures.answered (session_of head) r.events is.stands).0) c.requires.runs.1.1.1.1

pub returns-in_err-note-clause-goes : goal.returns-in_err-note-clause-goes
returns-in_err-note-clause-goes g c head r held is = note_exit g.C.Codec.coding head g.J.Diary.gives _ _ held r _ c.from_residual.result _ c.from_residual.ensures.1 c.in_err-note.ensures.gives is

pub returns-clause-goes : goal.returns-clause-goes
returns-clause-goes g c head r held is =
    let here = opened g.C.Codec.coding head _ _ held r c.world.view_is is in
    running_next g.C.Codec.coding head _ _ held r _ tt here (c.take_job.ensures.answered (session_of head) r.events here.stands).1 (none_counted g.C.Codec.coding head _ _ held r TakesJob tt here refl)

pub returns-clause-job : goal.returns-clause-job
returns-clause-job g c head r held is =
    let here = opened g.C.Codec.coding head _ _ held r c.world.view_is is in
    ap (λ (w : WorldPast _). next_job g.C.Codec.coding w.sender) is.world ∙ (sym (c.take_job.ensures.answered (session_of head) r.events here.stands).0 ∙ c.unwrap-job.ensures)
