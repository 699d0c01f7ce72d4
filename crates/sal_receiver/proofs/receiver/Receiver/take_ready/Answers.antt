use Rattle.sal_receiver.proofs.Handing.{take_is, none_taken}
use Rattle.sal_receiver.proofs.receiver.Receiver.take_ready.Goals as goal

pub returns-clause-answered : goal.returns-clause-answered
returns-clause-answered g c = λ past s.
    (take_is g.C.Codec.coding c.args.self.now c.self.inside.known c.self.inside.slots c.self.inside.store c.self.inside.frames.items c.take_first.new.items.items c.self.inside.last past c.take_first.result c.ready_of.result c.self.view_is s c.take_first.ensures.task c.take_first.ensures.out c.ready_of.ensures).0

pub returns-clause-frame : goal.returns-clause-frame
returns-clause-frame g c = λ past s.
    (take_is g.C.Codec.coding c.args.self.now c.self.inside.known c.self.inside.slots c.self.inside.store c.self.inside.frames.items c.take_first.new.items.items c.self.inside.last past c.take_first.result c.ready_of.result c.self.view_is s c.take_first.ensures.task c.take_first.ensures.out c.ready_of.ensures).1

pub returns-clause-alone : goal.returns-clause-alone
returns-clause-alone g c = λ none.
    none_taken g.C.Codec.coding c.args.self.now c.self.inside.known c.self.inside.slots c.self.inside.store c.self.inside.frames.items c.take_first.new.items.items c.self.inside.last c.take_first.result c.ready_of.result c.self.view_is c.take_first.ensures.alone c.ready_of.ensures none
