use Rattle.std.proofs.Common.{ap, sym, ◌∙◌}
use Rattle.std.specs.Arc.{arc_value}
use Rattle.sal_chain.specs.Held.{name_in}
use Rattle.sal_sender.proofs.Starting.{own_of, may_job}
use Rattle.sal_sender.proofs.sender.Sender.job.Goals as goal

pub new-requires-clause-fits : goal.new-requires-clause-fits
new-requires-clause-fits g c κs within =
    let own = own_of g.C.Codec.coding c.self.inside.head c.self.inside.store.kept c.args.source (c.in-Some.name, arc_value c.in-Some.state.now) c.self.invariant.0.states c.in-Some.ensures in
    may_job g.C.Codec.coding c.self.inside.head c.args.self.now.session.head (arc_value c.in-Some.state.now) _ (arc_value c.args.picture.now) _ c.args.q (ap (λ v. v.session.head) c.self.view_is) c.requires.size c.requires.q own.0 c.in_ok-try_clone-in-Some.ensures c.in_ok-samples.ensures

pub new-requires-clause-named : goal.new-requires-clause-named
new-requires-clause-named g c κs within =
    let own = own_of g.C.Codec.coding c.self.inside.head c.self.inside.store.kept c.args.source (c.in-Some.name, arc_value c.in-Some.state.now) c.self.invariant.0.states c.in-Some.ensures in
    own.1 ∙ ap (λ s. name_in g.C.Codec.coding s) (sym c.in_ok-try_clone-in-Some.ensures)
