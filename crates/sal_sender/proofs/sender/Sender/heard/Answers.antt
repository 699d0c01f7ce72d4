use Rattle.std.proofs.Common.{rules}
use Rattle.sal_wire.specs.Parsing.{parsed}
use Rattle.sal_sender.proofs.Heard.{ack_taken, came_ack}
use Rattle.sal_sender.proofs.Promised.{promised}
use Rattle.sal_sender.proofs.sender.Sender.heard.Goals as goal

pub returns-in-Ok-Ack-clause-answered : goal.returns-in-Ok-Ack-clause-answered
returns-in-Ok-Ack-clause-answered g c past s = ack_taken g.C.Codec.coding c.args.self.now c.take_ack.new.self past c.in-Ok-Ack.ack c.args.moment c.take_ack.result (parsed c.args.bytes.now) s c.take_ack.ensures.answer c.take_ack.ensures.after (came_ack c.in-Ok-Ack.field-0 c.in-Ok-Ack.ack (parsed c.args.bytes.now) c.in-Ok-Ack.field-0-is c.in-Ok-Ack.ensures.first)

pub returns-in-Ok-Ack-clause-promises : goal.returns-in-Ok-Ack-clause-promises
returns-in-Ok-Ack-clause-promises g c past s = promised g.C.Codec.coding _ _ past s.legal (returns-in-Ok-Ack-clause-answered g c past s).0

pub returns-in-Ok-clause-answered : goal.returns-in-Ok-clause-answered
returns-in-Ok-clause-answered g c past s = search rules

pub returns-in-Ok-clause-promises : goal.returns-in-Ok-clause-promises
returns-in-Ok-clause-promises g c past s = promised g.C.Codec.coding _ _ past s.legal (returns-in-Ok-clause-answered g c past s).0

pub returns-in-Err-clause-answered : goal.returns-in-Err-clause-answered
returns-in-Err-clause-answered g c past s = search rules

pub returns-in-Err-clause-promises : goal.returns-in-Err-clause-promises
returns-in-Err-clause-promises g c past s = promised g.C.Codec.coding _ _ past s.legal (returns-in-Err-clause-answered g c past s).0
