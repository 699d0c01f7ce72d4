use Rattle.sal_world.specs.World.{TakesJob, after}
use Rattle.sal_world.proofs.SenderSteps.{take_happens, take_kept}
use Rattle.sal_world.proofs.Stepped.{lifted}
use Rattle.sal_world.proofs.world.World.take_job.Goals as goal

pub returns-clause-answered : goal.returns-clause-answered
returns-clause-answered g c session events stands =
    lifted g.C.Codec.coding session c.args.self.now _ events TakesJob _ _ stands tt
    (take_happens g.C.Codec.coding session _ c.args.self.now c.take_job.new.self (after g.C.Codec.coding session events) c.take_job.result c.self.view_is stands.world c.take_job.ensures.first c.take_job.ensures.answered c.take_job.ensures.session)

pub returns-clause-refused : goal.returns-clause-refused
returns-clause-refused g c = take_kept _ c.args.self.now c.take_job.new.self c.take_job.result c.self.view_is c.take_job.ensures.refused

pub returns-clause-promises : goal.returns-clause-promises
returns-clause-promises g c session events stands = c.keeps_every_promise.ensures session stands.session_is events stands.sizes
