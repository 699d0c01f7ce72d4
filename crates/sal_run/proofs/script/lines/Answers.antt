use Rattle.std.proofs.Common.{rules, sym, subst}
use Rattle.sal_y4m.specs.Head.{IsHead}
use Rattle.sal_run.specs.Running.{IsAt}
use Rattle.sal_run.proofs.Places.{carries_first, carries_then}
use Rattle.sal_run.proofs.Whole.{lines_exit, lines_first, line_err, line_ok, lines_last, drop_at, drop_end}
use Rattle.sal_run.proofs.script.lines.Goals as goal

pub loop-numbered-init : goal.loop-numbered-init
loop-numbered-init g c = record {
  left = λ r is. lines_first g.C.Codec.coding c.args.pictures.now.head _ _ c.args.script.now r _ _ _ _ is;
  places = carries_first _ _;
  head = search rules;
  fresh = search rules;
  read_later = search rules;
  name = search rules;
  had = search rules;
  tells = search rules;
  open_ = search rules;
  later = search rules;
  out_later = search rules;
  out_name = search rules;
  out_tells = search rules;
}

pub line-requires-clause-runs : goal.line-requires-clause-runs
line-requires-clause-runs g c κs within =
    let now = c.loop-numbered.invariant.left c.requires.runs.0 c.requires.runs.1 in
    (now.now, subst (λ h. IsAt g.C.Codec.coding h c.loop-numbered.play.stage.world c.loop-numbered.play.downs c.loop-numbered.play.ups (g.K.Sink.held c.loop-numbered.out.sink) now.now) (sym c.loop-numbered.invariant.head) now.here)

pub line-requires-clause-legal : goal.line-requires-clause-legal
line-requires-clause-legal g c κs within = subst (λ h. IsHead h) (sym c.loop-numbered.invariant.head) c.requires.legal

pub returns-in_err-line-clause-goes : goal.returns-in_err-line-clause-goes
returns-in_err-line-clause-goes g c r is =
    lines_exit g.C.Codec.coding c.args.pictures.now.head g.J.Diary.gives c.args.pictures.now.place c.args.script.now c.args.feed.now.room c.line.new.feed.room _ _ _ _ _ _ r c.from_residual.result _ c.from_residual.ensures.1
    (line_err g.C.Codec.coding c.args.pictures.now.head g.J.Diary.gives c.args.pictures.now.place _ c.loop-numbered.pictures.head _ _ _ _ _ _ c.args.script.now _ r _ _ _ _ _ _ _ _ _ c.line.result _ (c.loop-numbered.invariant.left r is) c.loop-numbered.invariant.head c.in_err-line.was c.loop-numbered.invariant.tells c.loop-numbered.invariant.places (drop_at c.args.script.now _ _ c.loop-numbered-test.true) c.line.ensures.goes)

pub loop-numbered-preserved : goal.loop-numbered-preserved
loop-numbered-preserved g c = record {
  left = λ r is.
      line_ok g.C.Codec.coding c.args.pictures.now.head g.J.Diary.gives c.args.pictures.now.place _ c.loop-numbered.pictures.head _ _ _ _ _ _ c.args.script.now _ r _ _ _ _ _ _ _ _ _ c.line.result _ (c.loop-numbered.invariant.left r is) c.loop-numbered.invariant.head c.in_ok-line.was c.loop-numbered.invariant.tells (drop_at c.args.script.now _ _ c.loop-numbered-test.true) c.line.ensures.goes;
  places = carries_then _ _ _ _ _ _ c.loop-numbered.invariant.tells c.loop-numbered.invariant.places c.in_ok-line.ensures.places;
  head = search rules;
  fresh = search rules;
  read_later = search rules;
  name = search rules;
  had = search rules;
  tells = search rules;
  open_ = search rules;
  later = search rules;
  out_later = search rules;
  out_name = search rules;
  out_tells = search rules;
}

pub returns-clause-goes : goal.returns-clause-goes
returns-clause-goes g c r is =
    lines_last g.C.Codec.coding c.args.pictures.now.head g.J.Diary.gives c.args.pictures.now.place _ _ _ _ c.args.script.now r _ _ _ _ _ (c.loop-numbered.invariant.left r is) (drop_end c.args.script.now _ c.loop-numbered-test.false)
