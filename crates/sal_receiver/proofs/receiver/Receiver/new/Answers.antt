use Rattle.sal_receiver.proofs.Parting.{new_is}
use Rattle.sal_receiver.proofs.receiver.Receiver.new.Goals as goal

pub returns : goal.returns
returns g c = new_is g.C.Codec.coding c.start.result c.in_ok-new.field-0 c.in_ok-new-2.field-0 c.new-3.result.items c.start.ensures c.in_ok-new.ensures c.in_ok-new-2.ensures c.new-3.ensures.items
