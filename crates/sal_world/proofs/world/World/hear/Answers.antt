use Rattle.sal_world.specs.World.{Hears, after}
use Rattle.sal_world.proofs.Stepped.{lifted, honest_hearing}
use Rattle.sal_world.proofs.world.World.hear.Goals as goal

pub returns-clause-answered : goal.returns-clause-answered
returns-clause-answered g c session events stands =
    lifted g.C.Codec.coding session c.args.self.now _ events (Hears c.args.which) _ _ stands tt (c.take_ack.ensures.answered session (after g.C.Codec.coding session events) stands.world)

pub returns-clause-honest : goal.returns-clause-honest
returns-clause-honest g c session events stands names =
    let did = lifted g.C.Codec.coding session c.args.self.now _ events (Hears c.args.which) _ _ stands tt (c.take_ack.ensures.answered session (after g.C.Codec.coding session events) stands.world) in
    honest_hearing g.C.Codec.coding session events c.args.which c.take_ack.result did.0 ((c.keeps_every_promise.ensures session did.1.session_is _ did.1.sizes).named names).nothing_refused

pub returns-clause-promises : goal.returns-clause-promises
returns-clause-promises g c session events stands = c.keeps_every_promise.ensures session stands.session_is events stands.sizes
