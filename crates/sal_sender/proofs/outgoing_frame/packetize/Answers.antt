use Rattle.sal_sender.proofs.Bursts.{part_more, no_parts, all_parts}
use Rattle.sal_sender.proofs.outgoing_frame.packetize.Goals as goal

pub loop-index-init : goal.loop-index-init
loop-index-init c = no_parts c.args.outgoing.now c.new-burst.result c.new-burst.ensures

pub loop-index-preserved : goal.loop-index-preserved
loop-index-preserved c = part_more c.args.outgoing.now c.loop-index.index c.in_ok-datagram.field-0 c.loop-index.burst c.push.new.self c.in_ok-push.ensures c.loop-index.invariant c.in_ok-datagram.ensures

pub returns : goal.returns
returns c = all_parts c.args.outgoing.now c.loop-index.index c.args.outgoing.now.choice.count c.loop-index.burst c.loop-index.auto.index-end c.loop-index-test.false c.loop-index.invariant
