use Rattle.std.proofs.Common.{rules}
use Rattle.sal_run.proofs.Turns.{frames_first, frames_next, frames_done, frames_last, frames_exit, last_exit, no_out, never_stop}
use Rattle.sal_run.proofs.stage.BothEnds.frames.Goals as goal

pub loop-round-init : goal.loop-round-init
loop-round-init g c = record {
  frames = λ head r is. frames_first g.C.Codec.coding head _ _ _ r c.acks-round-end.ensures is;
  open_ = search rules;
  later = search rules;
  out_later = search rules;
  out_name = search rules;
  out_tells = search rules;
}

pub frame-requires-clause-runs : goal.frame-requires-clause-runs
frame-requires-clause-runs g c κs within =
    let left = c.loop-round.invariant.frames c.requires.runs.0 c.requires.runs.1.0 c.requires.runs.1.1 in
    (c.requires.runs.0, (left.now, left.running))

pub returns-in_err-more-clause-goes : goal.returns-in_err-more-clause-goes
returns-in_err-more-clause-goes g c head r is =
    let left = c.loop-round.invariant.frames head r is in
    frames_exit g.C.Codec.coding head g.J.Diary.gives _ _ _ _ _ _ r c.from_residual.result _ left c.loop-round-test.true c.from_residual.ensures.1 (c.in_err-more.ensures.goes head left.now left.running)

pub returns-then-not-more-clause-goes : goal.returns-then-not-more-clause-goes
returns-then-not-more-clause-goes g c head r is =
    let left = c.loop-round.invariant.frames head r is in
    frames_done g.C.Codec.coding head _ _ _ _ _ _ r c.in_ok-more.more left c.loop-round-test.true c.if-not-more.true (c.in_ok-more.ensures.more head left.now left.running) (c.in_ok-more.ensures.goes head left.now left.running)

pub loop-round-preserved : goal.loop-round-preserved
loop-round-preserved g c = record {
  frames = λ head r is.
      let left = c.loop-round.invariant.frames head r is in
      frames_next g.C.Codec.coding head _ _ _ _ _ _ r c.in_ok-more.more left c.if-not-more.false (c.in_ok-more.ensures.more head left.now left.running) (c.in_ok-more.ensures.goes head left.now left.running);
  open_ = search rules;
  later = search rules;
  out_later = search rules;
  out_name = search rules;
  out_tells = search rules;
}

pub ready-requires-clause-runs : goal.ready-requires-clause-runs
ready-requires-clause-runs g c κs within =
    let left = c.loop-round.invariant.frames c.requires.runs.0 c.requires.runs.1.0 c.requires.runs.1.1 in
    (c.requires.runs.0, (left.now, (_, left.running)))

pub returns-in_err-ready-clause-goes : goal.returns-in_err-ready-clause-goes
returns-in_err-ready-clause-goes g c head r is =
    let left = c.loop-round.invariant.frames head r is in
    last_exit g.C.Codec.coding head g.J.Diary.gives _ _ _ _ _ r c.from_residual-in_err-ready.result _ left c.loop-round-test.false c.loop-round.auto._round-end c.from_residual-in_err-ready.ensures.1 (c.in_err-ready.ensures.goes head left.now _ left.running)

pub returns-in_err-ready-clause-out_cause : goal.returns-in_err-ready-clause-out_cause
returns-in_err-ready-clause-out_cause g c = no_out c.from_residual-in_err-ready.result _ _ _ c.loop-round.invariant.out_later c.from_residual-in_err-ready.ensures.1 (never_stop _ c.in_err-ready.ensures.never)

pub returns-clause-goes : goal.returns-clause-goes
returns-clause-goes g c head r is =
    let left = c.loop-round.invariant.frames head r is in
    frames_last g.C.Codec.coding head _ _ _ _ _ r left c.loop-round-test.false c.loop-round.auto._round-end (c.in_ok-ready.ensures.goes head left.now _ left.running)
