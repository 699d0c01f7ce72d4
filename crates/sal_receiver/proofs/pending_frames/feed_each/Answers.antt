use Rattle.std.proofs.Common.{◌+◌, cond, ap, sym, ◌∙◌, arith}
use Rattle.sal_receiver.specs.Pending.{frame_unshared, fed_one, wants}
use Rattle.sal_receiver.proofs.FeedLemmas.{feed_done, feed_rest, feed_one_left, feed_enough, feed_all}
use Rattle.sal_receiver.proofs.pending_frames.feed_each.Goals as goal

pub feed_one-requires : goal.feed_one-requires
feed_one-requires g c =
    feed_one_left c.args.name.now.0 c.loop-p.p-index c.loop-p.shares.others c.loop-p.items c.p-item.result (omega (arith, c.loop-p-test.true, c.loop-p.auto.items)) c.p-item.is c.loop-p.invariant.enough

pub loop-p-preserved : goal.loop-p-preserved
loop-p-preserved g c = record {
  done =
      feed_done c.args.name.now.0 c.args.shares.now.state c.loop-p.p-index c.loop-p.items c.args.items.now c.p-item.result c.feed_one.new.p c.loop-p-test.true c.loop-p.auto.items c.loop-p.invariant.done c.loop-p.invariant.rest c.p-item.is
      (c.feed_one.ensures.fed ∙ (ap (λ z. fed_one c.args.name.now.0 c.loop-p.shares.state (frame_unshared z)) (sym c.p-item.is) ∙ ap (λ s. fed_one c.args.name.now.0 s (frame_unshared c.p-item.result)) c.loop-p.invariant.state));
  rest = feed_rest c.loop-p.p-index c.loop-p.items c.args.items.now c.p-item.result c.feed_one.new.p c.loop-p-test.true c.loop-p.auto.items c.loop-p.invariant.rest;
  state = c.feed_one.ensures.state ∙ c.loop-p.invariant.state;
  enough =
      feed_enough c.args.name.now.0 c.loop-p.p-index c.loop-p.shares.others c.feed_one.new.shares.others c.loop-p.items c.p-item.result c.feed_one.new.p (omega (arith, c.loop-p-test.true, c.loop-p.auto.items)) c.p-item.is c.loop-p.invariant.enough
      (ap (λ z. c.feed_one.new.shares.others + cond (wants c.args.name.now.0 z) 1 0) c.p-item.is ∙ c.feed_one.ensures.left);
}

pub returns-clause-fed : goal.returns-clause-fed
returns-clause-fed g c = feed_all c.args.name.now.0 c.args.shares.now.state c.loop-p.p-index c.loop-p.items c.args.items.now c.loop-p-test.false c.loop-p.auto.items c.loop-p.invariant.done
