use Rattle.std.proofs.Common.{Some, None, ap, ◌∙◌}
use Rattle.sal_chain.specs.Held.{with_number}
use Rattle.sal_chain.proofs.Sharing.{found_numbered}
use Rattle.sal_chain.proofs.store.Store.get.Goals as goal

pub returns-in-Some : goal.returns-in-Some
returns-in-Some g c =
    found_numbered c.args.number c.self.inside.items.items c.args.self.now c.self.inside.floor (Some c.in-Some.kept.now) c.self.view_is
    (c.in-Some.ensures ∙ ap (with_number c.args.number) c.as_slice.ensures.value)

pub returns-in-None : goal.returns-in-None
returns-in-None g c =
    found_numbered c.args.number c.self.inside.items.items c.args.self.now c.self.inside.floor None c.self.view_is
    (c.in-None.ensures ∙ ap (with_number c.args.number) c.as_slice.ensures.value)
