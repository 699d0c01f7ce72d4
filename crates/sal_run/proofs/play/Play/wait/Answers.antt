use Rattle.std.proofs.Common.{sym, ap, ◌∙◌}
use Rattle.sal_run.proofs.Walks.{wait_comes, wait_moment}
use Rattle.sal_run.proofs.play.Play.wait.Goals as goal

pub returns-clause-comes : goal.returns-clause-comes
returns-clause-comes g c head r held is =
    wait_comes g.C.Codec.coding head g.J.Diary.gives _ _ _ held c.args.time _ r c.pass.result
    (wait_moment c.saturating_add-moment.result c.moment.result c.args.time _ _ c.saturating_add-moment.ensures c.moment.ensures (is.running.stands.world.moment_is ∙ sym (ap (λ w. w.moment) is.running.world)))
    is.downs_are is.ups_are (c.pass.ensures.goes head r held is.running)
