use Rattle.std.proofs.Common.{rules, sym, ◌∙◌, ap, length, subst}
use Rattle.sal_world.specs.World.{sent}
use Rattle.sal_world.specs.Script.{downs_in, down, down_all}
use Rattle.sal_run.specs.Walk.{Walk}
use Rattle.sal_run.specs.Running.{IsAt}
use Rattle.sal_run.specs.Loop.{session_of}
use Rattle.sal_run.proofs.Walks.{walk_first, walk_next, downs_exit, downs_passed}
use Rattle.sal_run.proofs.play.Play.down_all.Goals as goal

pub loop-at-init : goal.loop-at-init
loop-at-init g c = record {
  walk = λ head r is. record {
    now = r;
    here = is;
    walk = subst (λ at. Walk g.C.Codec.coding (session_of head) (down g.C.Codec.coding (session_of head)) c.from-last.result at c.args.self.now.downs r (down_all g.C.Codec.coding (session_of head) r)) (sym c.known-at.ensures) (walk_first g.C.Codec.coding (session_of head) (down g.C.Codec.coding (session_of head)) downs_in r.events c.args.self.now.downs c.from-last.result _ r is.downs_are (c.from-last.ensures ∙ (c.datagrams.ensures (session_of head) r.events is.running.stands ∙ ap (λ w. length (sent w)) (sym is.running.world))));
  };
  open_ = search rules;
  later = search rules;
  out_later = search rules;
  out_name = search rules;
  out_tells = search rules;
}

pub down_unless-requires-clause-runs : goal.down_unless-requires-clause-runs
down_unless-requires-clause-runs g c κs within =
    let left = c.loop-at.invariant.walk c.requires.runs.0 c.requires.runs.1.0 c.requires.runs.1.1 in
    (c.requires.runs.0, (left.now, left.here))

pub returns-in_err-down_unless-clause-comes : goal.returns-in_err-down_unless-clause-comes
returns-in_err-down_unless-clause-comes g c head r is =
    let left = c.loop-at.invariant.walk head r is in
    downs_exit g.C.Codec.coding head g.J.Diary.gives _ _ _ _ _ _ _ _ _ _ _ c.from_residual.result _ left c.loop-at-test.true c.from_residual.ensures.1 (c.in_err-down_unless.ensures.comes head left.now left.here)

pub loop-at-preserved : goal.loop-at-preserved
loop-at-preserved g c = record {
  walk = λ head r is.
      let left = c.loop-at.invariant.walk head r is in
      record { now = _; here = c.in_ok-down_unless.ensures.comes head left.now left.here; walk = walk_next g.C.Codec.coding (session_of head) (down g.C.Codec.coding (session_of head)) _ _ _ _ left.now _ left.walk c.loop-at-test.true c.in_ok-down_unless.ensures.marked };
  open_ = search rules;
  later = search rules;
  out_later = search rules;
  out_name = search rules;
  out_tells = search rules;
}

pub returns-clause-comes : goal.returns-clause-comes
returns-clause-comes g c head r is =
    subst (λ m. IsAt g.C.Codec.coding head c.loop-at.self.stage.world m c.loop-at.self.ups (g.K.Sink.held c.loop-at.out.sink) (down_all g.C.Codec.coding (session_of head) r)) (sym c.pass.ensures)
    (downs_passed g.C.Codec.coding head g.J.Diary.gives _ _ _ _ _ _ _ (c.loop-at.invariant.walk head r is) c.loop-at-test.false)
