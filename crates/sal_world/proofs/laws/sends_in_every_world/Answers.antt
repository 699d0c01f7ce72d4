use Rattle.sal_world.proofs.FromInvariant.{always}
use Rattle.sal_world.proofs.laws.sends_in_every_world.Goals as goal

pub returns : goal.returns
returns g c = λ session. always g.C.Codec.coding session
