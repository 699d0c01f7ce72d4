use Rattle.sal_wire.specs.Fields.{fields_of}
use Rattle.sal_receiver.specs.Past.{taken}
use Rattle.sal_receiver.proofs.Parting.{part_refused, part_memory, part_taken}
use Rattle.sal_receiver.proofs.receiver.Receiver.part.Goals as goal

pub returns-in-Some-clause-answered : goal.returns-in-Some-clause-answered
returns-in-Some-clause-answered g c = λ past s.
    part_refused g.C.Codec.coding c.args.self.now (fields_of c.args.fragment.now) c.args.moment c.in-Some.cause past c.cause.result s (c.cause.ensures (taken past) s.slots) c.in-Some.is

pub returns-in-Ok-clause-answered : goal.returns-in-Ok-clause-answered
returns-in-Ok-clause-answered g c = λ past s.
    part_taken g.C.Codec.coding c.args.self.now c.enter.new.self (fields_of c.args.fragment.now) c.args.moment c.ack.result past c.cause.result s c.requires (c.cause.ensures (taken past) s.slots) c.in_default.is
    (c.in-Ok.ensures.entered (taken past) s.slots) c.ack.ensures

pub returns-in-Err-clause-answered : goal.returns-in-Err-clause-answered
returns-in-Err-clause-answered g c = λ past s.
    part_memory g.C.Codec.coding c.args.self.now c.enter.new.self (fields_of c.args.fragment.now) c.args.moment past c.cause.result s (c.cause.ensures (taken past) s.slots) c.in_default.is c.in-Err.ensures.kept
