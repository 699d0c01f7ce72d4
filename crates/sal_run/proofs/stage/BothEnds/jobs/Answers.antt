use Rattle.std.proofs.Common.{rules, arith}
use Rattle.sal_run.proofs.Turns.{jobs_first, jobs_next, jobs_done, jobs_last, jobs_exit}
use Rattle.sal_run.proofs.stage.BothEnds.jobs.Goals as goal

pub loop-run-init : goal.loop-run-init
loop-run-init g c = record { jobs = λ head r held is. jobs_first g.C.Codec.coding head c.args.late _ held r is; later = omega arith }

pub job-requires-clause-runs : goal.job-requires-clause-runs
job-requires-clause-runs g c κs within =
    let left = c.loop-run.invariant.jobs c.requires.runs.0 c.requires.runs.1.0 c.requires.runs.1.1.0 c.requires.runs.1.1.1 in
    (c.requires.runs.0, (left.now, (c.requires.runs.1.1.0, left.running)))

pub returns-in_err-more-clause-goes : goal.returns-in_err-more-clause-goes
returns-in_err-more-clause-goes g c head r held is =
    let left = c.loop-run.invariant.jobs head r held is in
    jobs_exit g.C.Codec.coding head g.J.Diary.gives c.args.late _ _ _ held r c.from_residual.result _ left c.loop-run-test.true c.from_residual.ensures.1 (c.in_err-more.ensures.goes head left.now held left.running)

pub returns-then-not-more-clause-goes : goal.returns-then-not-more-clause-goes
returns-then-not-more-clause-goes g c head r held is =
    let left = c.loop-run.invariant.jobs head r held is in
    jobs_done g.C.Codec.coding head c.args.late _ _ _ held r c.in_ok-more.more left c.loop-run-test.true c.if-not-more.true (c.in_ok-more.ensures.more head left.now held left.running) (c.in_ok-more.ensures.goes head left.now held left.running)

pub loop-run-preserved : goal.loop-run-preserved
loop-run-preserved g c = record {
  jobs = λ head r held is.
      let left = c.loop-run.invariant.jobs head r held is in
      jobs_next g.C.Codec.coding head c.args.late _ _ _ held r c.in_ok-more.more left c.if-not-more.false (c.in_ok-more.ensures.more head left.now held left.running) (c.in_ok-more.ensures.goes head left.now held left.running);
  later = search rules;
}

pub returns-clause-goes : goal.returns-clause-goes
returns-clause-goes g c head r held is = jobs_last g.C.Codec.coding head c.args.late _ _ held r c.loop-run-test.false c.loop-run.auto._run-end (c.loop-run.invariant.jobs head r held is)
