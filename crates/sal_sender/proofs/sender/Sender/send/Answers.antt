use Rattle.std.proofs.Common.{sym, subst}
use Rattle.std.specs.Arc.{arc_value}
use Rattle.sal_sender.specs.Sending.{IsNext}
use Rattle.sal_sender.proofs.Sent.{fresh_next, well_sent}
use Rattle.sal_sender.proofs.sender.Sender.send.Goals as goal

pub add-requires-clause-fresh : goal.add-requires-clause-fresh
add-requires-clause-fresh g c κs within = fresh_next g.C.Codec.coding _ c.args.prepared.choice c.raise_floor.new.self c.self.invariant.0 (subst (λ v. IsNext v c.args.prepared.choice) (sym c.self.view_is) c.requires.next) c.raise_floor.ensures

pub invariant_of-self : goal.invariant_of-self
invariant_of-self g c = (
  well_sent g.C.Codec.coding _ c.args.self.now c.args.prepared.choice c.args.prepared.name (arc_value c.args.prepared.state) c.add.new.self c.raise_floor.new.self c.args.prepared.sent_frames.items c.pass.new.self c.self.invariant.0 c.self.view_is c.requires.next c.requires.own c.raise_floor.ensures c.add.ensures c.requires.sent_frames c.pass.ensures,
  c.self.invariant.1,
)
