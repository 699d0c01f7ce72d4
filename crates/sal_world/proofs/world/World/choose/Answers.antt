use Rattle.sal_world.specs.World.{Chooses, after}
use Rattle.sal_world.proofs.Stepped.{lifted_unless, counted_choice}
use Rattle.sal_world.proofs.world.World.choose.Goals as goal

pub send-requires-clause-world : goal.send-requires-clause-world
send-requires-clause-world g c κs within = (c.requires.stands.0, (after g.C.Codec.coding c.requires.stands.0 c.requires.stands.1.0, c.requires.stands.1.1.world))

pub returns-clause-answered : goal.returns-clause-answered
returns-clause-answered g c session events stands =
    lifted_unless g.C.Codec.coding session c.args.self.now _ events Chooses _ _ _ stands tt (c.send.ensures.answered session (after g.C.Codec.coding session events) stands.world)

pub returns-clause-counted : goal.returns-clause-counted
returns-clause-counted g c choice is =
    let world = c.requires.stands.1.1.world in
    counted_choice g.C.Codec.coding c.requires.stands.0 c.args.self.now c.send.new.self c.requires.stands.1.0 choice c.send.result is c.requires.stands.1.1
    (c.send.ensures.answered c.requires.stands.0 (after g.C.Codec.coding c.requires.stands.0 c.requires.stands.1.0) world)

pub returns-clause-promises : goal.returns-clause-promises
returns-clause-promises g c session events stands = c.keeps_every_promise.ensures session stands.session_is events stands.sizes
