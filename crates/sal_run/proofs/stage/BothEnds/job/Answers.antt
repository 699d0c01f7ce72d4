use Rattle.std.proofs.Common.{sym, ◌∙◌}
use Rattle.sal_run.specs.Loop.{session_of}
use Rattle.sal_run.proofs.Turns.{waits, handed, take_exit, report_exit, job_goes}
use Rattle.sal_run.proofs.stage.BothEnds.job.Goals as goal

pub take-requires-clause-runs : goal.take-requires-clause-runs
take-requires-clause-runs g c κs within =
    let head = c.requires.runs.0 in
    let r = c.requires.runs.1.0 in
    let held = c.requires.runs.1.1.0 in
    let is = c.requires.runs.1.1.1 in
    (head, (r, (held, (is, waits g.C.Codec.coding head _ held r c.in-Some.role is (c.in-Some.ensures (session_of head) r.events is.stands)))))

pub returns-in_err-job-clause-goes : goal.returns-in_err-job-clause-goes
returns-in_err-job-clause-goes g c head r held is =
    take_exit g.C.Codec.coding head g.J.Diary.gives _ _ held c.args.late r c.in-Some.role c.from_residual.result _ is (c.in-Some.ensures (session_of head) r.events is.stands) (sym c.comes_late.ensures ∙ c.if-comes_late.false) c.from_residual.ensures.1 (c.in_err-job.ensures.goes head r held is)

pub report-requires-clause-runs : goal.report-requires-clause-runs
report-requires-clause-runs g c κs within =
    let head = c.requires.runs.0 in
    let r = c.requires.runs.1.0 in
    let held = c.requires.runs.1.1.0 in
    let is = c.requires.runs.1.1.1 in
    (head, (_, (held, (c.in_ok-job.ensures.goes head r held is, handed g.C.Codec.coding head _ held r _ _ is (c.in_ok-job.ensures.job head r held is) c.run-done.ensures))))

pub returns-in_err-report-clause-goes : goal.returns-in_err-report-clause-goes
returns-in_err-report-clause-goes g c head r held is =
    let next = c.in_ok-job.ensures.job head r held is in
    report_exit g.C.Codec.coding head g.J.Diary.gives _ _ held c.args.late r c.in-Some.role _ _ c.from_residual-in_err-report.result _ is (c.in-Some.ensures (session_of head) r.events is.stands) (sym c.comes_late.ensures ∙ c.if-comes_late.false) next c.run-done.ensures c.from_residual-in_err-report.ensures.1
    (c.in_err-report.ensures.goes head _ held (c.in_ok-job.ensures.goes head r held is) (handed g.C.Codec.coding head _ held r _ _ is next c.run-done.ensures))

pub returns-clause-goes : goal.returns-clause-goes
returns-clause-goes g c head r held is =
    let next = c.in_ok-job.ensures.job head r held is in
    job_goes g.C.Codec.coding head _ _ held c.args.late r c.in-Some.role _ _ is (c.in-Some.ensures (session_of head) r.events is.stands) (sym c.comes_late.ensures ∙ c.if-comes_late.false) next c.run-done.ensures
    (c.in_ok-report.ensures.goes head _ held (c.in_ok-job.ensures.goes head r held is) (handed g.C.Codec.coding head _ held r _ _ is next c.run-done.ensures))
