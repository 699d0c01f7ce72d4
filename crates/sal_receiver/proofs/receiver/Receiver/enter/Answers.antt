use Rattle.std.proofs.Common.{ap, sym, ◌∙◌, subst}
use Rattle.std.specs.Arc.{arc_value}
use Rattle.sal_wire.specs.Fields.{fields_of}
use Rattle.sal_reasm.specs.Stands.{SlotsStand}
use Rattle.sal_receiver.specs.Pending.{left_from}
use Rattle.sal_receiver.proofs.EnteredIs.{entered_is}
use Rattle.sal_receiver.proofs.receiver.Receiver.enter.Goals as goal

pub returns-clause-entered : goal.returns-clause-entered
returns-clause-entered g c = λ taken keeps none.
    let slots = subst (λ w. SlotsStand w taken) (sym (ap (λ b. b.slots) c.self.view_is)) keeps in
    entered_is g.C.Codec.coding.initial (arc_value c.self.inside.initial) c.args.self.now c.self.inside.known c.arrive.new.self c.self.inside.slots c.offer.new.self c.self.inside.store c.raise_floor.new.self c.self.inside.frames.items c.keep_from.new.items.items c.add.new.frames.items c.self.inside.last c.args.moment c.self.inside.floor c.max-floor.result (fields_of c.args.fragment.now) taken c.in_ok-offered.offered c.in_ok-source.source
    c.self.view_is c.self.invariant.0 c.self.invariant.1 c.max-floor.ensures c.arrive.ensures (c.in_ok-offered.ensures.kept taken slots) (c.in_ok-offered.ensures.answer taken slots) none c.raise_floor.ensures c.in_ok-source.ensures
    (c.keep_from.ensures.kept ∙ ap (λ xs. left_from c.max-floor.result xs) c.in_ok-reserve.ensures.items) c.add.ensures
