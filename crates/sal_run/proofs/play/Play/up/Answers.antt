use Rattle.sal_run.proofs.Walks.{memory_exit, up_comes, up_grows}
use Rattle.sal_run.proofs.play.Play.up.Goals as goal

pub returns-in_err-mark-clause-comes : goal.returns-in_err-mark-clause-comes
returns-in_err-mark-clause-comes g c head r held is =
    memory_exit g.C.Codec.coding head g.J.Diary.gives _ _ _ _ held r _ c.from_residual.result _ (up_grows g.C.Codec.coding head c.args.number r) c.from_residual.ensures.1 c.in_err-mark.ensures.memory is.running

pub returns-clause-comes : goal.returns-clause-comes
returns-clause-comes g c head r held is = up_comes g.C.Codec.coding head g.J.Diary.gives _ _ _ _ held c.args.number r c.hear.result c.in_ok-mark.ensures.marked is.downs_are is.ups_are (c.hear.ensures.goes head r held is.running)
