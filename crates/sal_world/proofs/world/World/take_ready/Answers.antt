use Rattle.sal_world.specs.World.{TakesReady, after}
use Rattle.sal_world.proofs.ReceiverSteps.{ready_happens, ready_kept}
use Rattle.sal_world.proofs.Stepped.{lifted}
use Rattle.sal_world.proofs.world.World.take_ready.Goals as goal

pub returns-clause-answered : goal.returns-clause-answered
returns-clause-answered g c session events stands =
    lifted g.C.Codec.coding session c.args.self.now _ events TakesReady _ _ stands tt
    (ready_happens g.C.Codec.coding session _ c.args.self.now c.take_ready.new.self (after g.C.Codec.coding session events) c.take_ready.result c.self.view_is stands.world c.take_ready.ensures.answered c.take_ready.ensures.frame)

pub returns-clause-refused : goal.returns-clause-refused
returns-clause-refused g c = ready_kept _ c.args.self.now c.take_ready.new.self c.take_ready.result c.self.view_is c.take_ready.ensures.alone

pub returns-clause-promises : goal.returns-clause-promises
returns-clause-promises g c session events stands = c.keeps_every_promise.ensures session stands.session_is events stands.sizes
