use Rattle.std.proofs.Common.{rules, sym, ◌∙◌, subst}
use Rattle.sal_world.specs.Script.{ups_in, up, up_all}
use Rattle.sal_run.specs.Walk.{Walk}
use Rattle.sal_run.specs.Running.{IsAt}
use Rattle.sal_run.specs.Loop.{session_of}
use Rattle.sal_run.proofs.Turns.{acks_long}
use Rattle.sal_run.proofs.Walks.{walk_first, walk_next, ups_exit, ups_passed}
use Rattle.sal_run.proofs.play.Play.up_all.Goals as goal

pub loop-at-init : goal.loop-at-init
loop-at-init g c = record {
  walk = λ head r held is. record {
    now = r;
    here = is;
    walk = subst (λ at. Walk g.C.Codec.coding (session_of head) (up g.C.Codec.coding (session_of head)) c.acks-last.result at c.args.self.now.ups r (up_all g.C.Codec.coding (session_of head) r)) (sym c.known-at.ensures) (walk_first g.C.Codec.coding (session_of head) (up g.C.Codec.coding (session_of head)) ups_in r.events c.args.self.now.ups c.acks-last.result _ r is.ups_are (c.acks-last.ensures ∙ acks_long g.C.Codec.coding head _ held r is.running));
  };
  later = search rules;
}

pub up_unless-requires-clause-runs : goal.up_unless-requires-clause-runs
up_unless-requires-clause-runs g c κs within =
    let left = c.loop-at.invariant.walk c.requires.runs.0 c.requires.runs.1.0 c.requires.runs.1.1.0 c.requires.runs.1.1.1 in
    (c.requires.runs.0, (left.now, (c.requires.runs.1.1.0, left.here)))

pub returns-in_err-up_unless-clause-comes : goal.returns-in_err-up_unless-clause-comes
returns-in_err-up_unless-clause-comes g c head r held is =
    let left = c.loop-at.invariant.walk head r held is in
    ups_exit g.C.Codec.coding head g.J.Diary.gives _ _ _ _ _ _ _ _ held held _ c.from_residual.result _ left c.loop-at-test.true c.from_residual.ensures.1 (c.in_err-up_unless.ensures.comes head left.now held left.here)

pub loop-at-preserved : goal.loop-at-preserved
loop-at-preserved g c = record {
  walk = λ head r held is.
      let left = c.loop-at.invariant.walk head r held is in
      record { now = _; here = c.in_ok-up_unless.ensures.comes head left.now held left.here; walk = walk_next g.C.Codec.coding (session_of head) (up g.C.Codec.coding (session_of head)) _ _ _ _ left.now _ left.walk c.loop-at-test.true c.in_ok-up_unless.ensures.marked };
  later = search rules;
}

pub returns-clause-comes : goal.returns-clause-comes
returns-clause-comes g c head r held is =
    subst (λ m. IsAt g.C.Codec.coding head c.loop-at.self.stage.world c.loop-at.self.downs m held (up_all g.C.Codec.coding (session_of head) r)) (sym c.pass.ensures)
    (ups_passed g.C.Codec.coding head g.J.Diary.gives _ _ _ _ _ _ _ (c.loop-at.invariant.walk head r held is) c.loop-at-test.false)
