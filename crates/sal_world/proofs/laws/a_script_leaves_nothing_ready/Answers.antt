use Rattle.sal_world.proofs.Emptied.{run_empty, run_served}
use Rattle.sal_world.proofs.laws.a_script_leaves_nothing_ready.Goals as goal

pub returns-clause-left : goal.returns-clause-left
returns-clause-left g c = λ session. run_empty g.C.Codec.coding session

pub returns-clause-served : goal.returns-clause-served
returns-clause-served g c = λ session. run_served g.C.Codec.coding session c.keeps_the_law.ensures
