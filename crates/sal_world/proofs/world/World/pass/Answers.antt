use Rattle.sal_world.specs.World.{Passes, after}
use Rattle.sal_world.proofs.Stepped.{lifted, passed}
use Rattle.sal_world.proofs.world.World.pass.Goals as goal

pub returns-clause-answered : goal.returns-clause-answered
returns-clause-answered g c session events stands =
    lifted g.C.Codec.coding session c.args.self.now _ events (Passes c.args.moment) _ _ stands tt (passed g.C.Codec.coding session _ c.args.self.now (after g.C.Codec.coding session events) c.args.moment c.max-self-inside.result c.self.view_is stands.world c.max-self-inside.ensures)

pub returns-clause-promises : goal.returns-clause-promises
returns-clause-promises g c session events stands = c.keeps_every_promise.ensures session stands.session_is events stands.sizes
