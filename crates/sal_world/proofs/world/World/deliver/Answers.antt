use Rattle.sal_world.specs.World.{Delivers, after}
use Rattle.sal_world.proofs.Stepped.{lifted_unless, honest_delivery}
use Rattle.sal_world.proofs.world.World.deliver.Goals as goal

pub returns-clause-answered : goal.returns-clause-answered
returns-clause-answered g c session events stands =
    lifted_unless g.C.Codec.coding session c.args.self.now _ events (Delivers c.args.which) _ _ _ stands tt (c.receive.ensures.answered session (after g.C.Codec.coding session events) stands.world)

pub returns-clause-memory : goal.returns-clause-memory
returns-clause-memory g c session events stands = c.receive.ensures.memory session (after g.C.Codec.coding session events) stands.world

pub returns-clause-honest : goal.returns-clause-honest
returns-clause-honest g c session events stands names =
    honest_delivery g.C.Codec.coding session _ events c.args.which c.receive.result
    (lifted_unless g.C.Codec.coding session c.args.self.now _ events (Delivers c.args.which) _ _ _ stands tt (c.receive.ensures.answered session (after g.C.Codec.coding session events) stands.world))
    (λ now. ((c.keeps_every_promise.ensures session now.session_is _ now.sizes).named names).nothing_refused)

pub returns-clause-promises : goal.returns-clause-promises
returns-clause-promises g c session events stands = c.keeps_every_promise.ensures session stands.session_is events stands.sizes
