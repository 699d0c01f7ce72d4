use Rattle.sal_run.proofs.Promised.{kept_promises}
use Rattle.sal_run.proofs.laws.every_run_keeps_its_promises.Goals as goal

pub returns : goal.returns
returns g c = λ head lines bytes is. kept_promises g.C.Codec.coding c.keeps_the_law.ensures head lines bytes is
