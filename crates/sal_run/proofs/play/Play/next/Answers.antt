use Rattle.sal_run.proofs.Walks.{next_comes}
use Rattle.sal_run.proofs.play.Play.next.Goals as goal

pub returns-clause-comes : goal.returns-clause-comes
returns-clause-comes g c head r held is size = next_comes g.C.Codec.coding head g.J.Diary.gives _ _ _ held _ c.args.picture r c.next_picture.result is.downs_are is.ups_are (c.next_picture.ensures.goes head r held is.running size)
