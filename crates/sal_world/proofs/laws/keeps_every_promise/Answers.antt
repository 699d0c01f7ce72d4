use Rattle.sal_world.proofs.Kept.{all_interleavings}
use Rattle.sal_world.proofs.laws.keeps_every_promise.Goals as goal

pub returns : goal.returns
returns g c = λ session. all_interleavings g.C.Codec.coding session c.keeps_the_law.ensures
