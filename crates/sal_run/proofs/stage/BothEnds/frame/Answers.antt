use Rattle.std.proofs.Common.{sym, ◌∙◌, subst, arith}
use Rattle.sal_run.specs.Running.{IsRunning}
use Rattle.sal_run.proofs.Turns.{ready_exit, decoded_exit, decoded_runs, was_ready, frame_some, frame_none, no_frame, no_out, never_stop}
use Rattle.sal_run.proofs.stage.BothEnds.frame.Goals as goal

pub returns-in_err-frame-clause-goes : goal.returns-in_err-frame-clause-goes
returns-in_err-frame-clause-goes g c head r is = ready_exit g.C.Codec.coding head g.J.Diary.gives _ _ r c.from_residual.result _ c.from_residual.ensures.1 (c.in_err-frame.ensures.goes head r _ is)

pub returns-in_err-frame-clause-out_cause : goal.returns-in_err-frame-clause-out_cause
returns-in_err-frame-clause-out_cause g c = no_out c.from_residual.result _ _ _ (omega arith) c.from_residual.ensures.1 (never_stop _ c.in_err-frame.ensures.never)

pub returns-in_default-clause-goes : goal.returns-in_default-clause-goes
returns-in_default-clause-goes g c head r is =
    subst (λ s. IsRunning g.C.Codec.coding head c.ready.new.world (g.K.Sink.held c.args.out.now.sink) s) (sym (no_frame g.C.Codec.coding head r (c.in_ok-frame.ensures.frame head r _ is ∙ c.in_default.is))) (c.in_ok-frame.ensures.goes head r _ is)

pub returns-in_default-clause-more : goal.returns-in_default-clause-more
returns-in_default-clause-more g c head r is = frame_none g.C.Codec.coding head r (c.in_ok-frame.ensures.frame head r _ is ∙ c.in_default.is)

pub decoded-requires-clause-runs : goal.decoded-requires-clause-runs
decoded-requires-clause-runs g c κs within =
    let head = c.requires.runs.0 in
    let r = c.requires.runs.1.0 in
    let is = c.requires.runs.1.1 in
    (head, (_, (c.in_ok-frame.ensures.goes head r _ is, was_ready g.C.Codec.coding head _ _ r _ _ is (c.in_ok-frame.ensures.frame head r _ is ∙ c.in-Some.is) c.run-decoding.ensures.handed)))

pub returns-in_err-decoded-clause-goes : goal.returns-in_err-decoded-clause-goes
returns-in_err-decoded-clause-goes g c head r is =
    let next = c.in_ok-frame.ensures.frame head r _ is ∙ c.in-Some.is in
    decoded_exit g.C.Codec.coding head g.J.Diary.gives _ _ r _ _ c.from_residual-in_err-decoded.result _ next c.run-decoding.ensures.handed c.from_residual-in_err-decoded.ensures.1
    (c.in_err-decoded.ensures.goes head _ (c.in_ok-frame.ensures.goes head r _ is) (was_ready g.C.Codec.coding head _ _ r _ _ is next c.run-decoding.ensures.handed))

pub returns-clause-goes : goal.returns-clause-goes
returns-clause-goes g c head r is =
    let next = c.in_ok-frame.ensures.frame head r _ is ∙ c.in-Some.is in
    decoded_runs g.C.Codec.coding head _ _ r _ _ next c.run-decoding.ensures.handed (c.in_ok-decoded.ensures.goes head _ (c.in_ok-frame.ensures.goes head r _ is) (was_ready g.C.Codec.coding head _ _ r _ _ is next c.run-decoding.ensures.handed))

pub returns-clause-more : goal.returns-clause-more
returns-clause-more g c head r is = frame_some g.C.Codec.coding head r _ (c.in_ok-frame.ensures.frame head r _ is ∙ c.in-Some.is)
