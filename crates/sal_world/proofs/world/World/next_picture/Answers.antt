use Rattle.std.specs.Arc.{arc_value}
use Rattle.sal_world.specs.World.{Starts, after}
use Rattle.sal_world.proofs.SenderSteps.{next_happens, next_kept, next_lacks}
use Rattle.sal_world.proofs.Stepped.{lifted_unless, picture_size}
use Rattle.sal_world.proofs.world.World.next_picture.Goals as goal

pub returns-clause-answered : goal.returns-clause-answered
returns-clause-answered g c session events stands =
    lifted_unless g.C.Codec.coding session c.args.self.now _ events (Starts (arc_value c.args.picture)) _ _ _ stands (picture_size g.C.Codec.coding session c.args.self.now events (arc_value c.args.picture) stands c.requires.size)
    (next_happens g.C.Codec.coding session _ c.args.self.now c.next_picture.new.self (after g.C.Codec.coding session events) (arc_value c.args.picture) c.next_picture.result c.self.view_is stands.world c.next_picture.ensures.answered c.next_picture.ensures.session)

pub returns-clause-refused : goal.returns-clause-refused
returns-clause-refused g c = next_kept _ c.args.self.now c.next_picture.new.self c.next_picture.result c.self.view_is c.next_picture.ensures.refused

pub returns-clause-memory : goal.returns-clause-memory
returns-clause-memory g c session events stands = next_lacks g.C.Codec.coding session _ c.args.self.now (after g.C.Codec.coding session events) c.next_picture.result c.self.view_is stands.world c.next_picture.ensures.memory

pub returns-clause-promises : goal.returns-clause-promises
returns-clause-promises g c session events stands = c.keeps_every_promise.ensures session stands.session_is events stands.sizes
