use Rattle.sal_world.proofs.Played.{run_holds}
use Rattle.sal_world.proofs.laws.a_script_keeps_every_promise.Goals as goal

pub returns : goal.returns
returns g c = λ session. run_holds g.C.Codec.coding session c.keeps_the_law.ensures
