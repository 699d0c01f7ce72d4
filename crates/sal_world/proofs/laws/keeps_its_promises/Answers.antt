use Rattle.sal_world.proofs.FromInvariant.{always, held_by_names}
use Rattle.sal_world.proofs.laws.keeps_its_promises.Goals as goal

pub returns-clause-always : goal.returns-clause-always
returns-clause-always g c = λ session events inv. always g.C.Codec.coding session events

pub returns-clause-named : goal.returns-clause-named
returns-clause-named g c = λ session events inv. held_by_names g.C.Codec.coding session events inv
