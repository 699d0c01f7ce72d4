use Rattle.std.proofs.Common.{◌∷◌, sym, subst}
use Rattle.sal_world.specs.World.{Starts}
use Rattle.sal_world.specs.Promises.{HasSize}
use Rattle.sal_world.specs.Script.{with_event}
use Rattle.sal_run.specs.Loop.{session_of}
use Rattle.sal_run.specs.Running.{IsRunning, Stopped}
use Rattle.sal_run.proofs.Turns.{start_exit, early_exit, choose_exit, samples_stop}
use Rattle.sal_run.proofs.stage.BothEnds.next_picture.Goals as goal

pub returns-in_default-clause-goes : goal.returns-in_default-clause-goes
returns-in_default-clause-goes g c head r held is size = samples_stop g.C.Codec.coding head g.J.Diary.gives c.args.self.now.world _ held c.args.late c.args.picture r is

pub returns-in_err-start-clause-goes : goal.returns-in_err-start-clause-goes
returns-in_err-start-clause-goes g c head r held is size =
    start_exit g.C.Codec.coding head g.J.Diary.gives _ held c.args.late c.args.picture r c.from_residual.result _ c.from_residual.ensures.1
    (subst (λ p. Stopped g.C.Codec.coding head g.J.Diary.gives held (Starts p ∷ r.events) c.in_err-start.field-0.0) c.in-Ok.ensures.ok (c.in_err-start.ensures.goes head r held is (subst (λ p. HasSize (session_of head) p) (sym c.in-Ok.ensures.ok) size)))

pub returns-in_err-jobs-clause-goes : goal.returns-in_err-jobs-clause-goes
returns-in_err-jobs-clause-goes g c head r held is size =
    let running = subst (λ p. IsRunning g.C.Codec.coding head c.start.new.world held (with_event g.C.Codec.coding (session_of head) (Starts p) r)) c.in-Ok.ensures.ok (c.in_ok-start.ensures.goes head r held is (subst (λ p. HasSize (session_of head) p) (sym c.in-Ok.ensures.ok) size)) in
    early_exit g.C.Codec.coding head g.J.Diary.gives _ held c.args.late _ c.from_residual-in_err-jobs.result _ c.from_residual-in_err-jobs.ensures.1 (c.in_err-jobs.ensures.goes head _ held running)

pub returns-in_err-choose-clause-goes : goal.returns-in_err-choose-clause-goes
returns-in_err-choose-clause-goes g c head r held is size =
    let running = subst (λ p. IsRunning g.C.Codec.coding head c.start.new.world held (with_event g.C.Codec.coding (session_of head) (Starts p) r)) c.in-Ok.ensures.ok (c.in_ok-start.ensures.goes head r held is (subst (λ p. HasSize (session_of head) p) (sym c.in-Ok.ensures.ok) size)) in
    choose_exit g.C.Codec.coding head g.J.Diary.gives _ held c.args.late _ c.from_residual-in_err-choose.result _ c.from_residual-in_err-choose.ensures.1 (c.in_err-choose.ensures.goes head _ held (c.in_ok-jobs.ensures.goes head _ held running))

pub returns-clause-goes : goal.returns-clause-goes
returns-clause-goes g c head r held is size =
    let running = subst (λ p. IsRunning g.C.Codec.coding head c.start.new.world held (with_event g.C.Codec.coding (session_of head) (Starts p) r)) c.in-Ok.ensures.ok (c.in_ok-start.ensures.goes head r held is (subst (λ p. HasSize (session_of head) p) (sym c.in-Ok.ensures.ok) size)) in
    c.jobs-2.ensures.goes head _ held (c.in_ok-choose.ensures.goes head _ held (c.in_ok-jobs.ensures.goes head _ held running))
