use Rattle.std.proofs.Common.{arith, subst}
use Rattle.sal_run.specs.Named.{IsMarked}
use Rattle.sal_run.proofs.Turns.{no_out, never_stop}
use Rattle.sal_run.proofs.Walks.{memory_exit, grown_exit, down_comes, down_grows, deliver_grows}
use Rattle.sal_run.proofs.play.Play.down.Goals as goal

pub returns-in_err-mark-clause-comes : goal.returns-in_err-mark-clause-comes
returns-in_err-mark-clause-comes g c head r is =
    memory_exit g.C.Codec.coding head g.J.Diary.gives _ _ _ _ _ r _ c.from_residual.result _ (down_grows g.C.Codec.coding head c.args.number r) c.from_residual.ensures.1 c.in_err-mark.ensures.memory is.running

pub returns-in_err-deliver-clause-comes : goal.returns-in_err-deliver-clause-comes
returns-in_err-deliver-clause-comes g c head r is =
    grown_exit g.C.Codec.coding head g.J.Diary.gives _ _ _ _ _ _ c.from_residual-in_err-deliver.result _ (deliver_grows g.C.Codec.coding head c.args.number r) c.from_residual-in_err-deliver.ensures.1 (c.in_err-deliver.ensures.goes head r _ is.running)

pub returns-in_err-deliver-clause-out_cause : goal.returns-in_err-deliver-clause-out_cause
returns-in_err-deliver-clause-out_cause g c = no_out c.from_residual-in_err-deliver.result _ _ _ (omega arith) c.from_residual-in_err-deliver.ensures.1 (never_stop _ c.in_err-deliver.ensures.never)

pub returns-clause-comes : goal.returns-clause-comes
returns-clause-comes g c head r is =
    down_comes g.C.Codec.coding head g.J.Diary.gives _ _ _ _ _ c.args.number r c.frames.result (subst (λ k. IsMarked k c.args.self.now.downs c.mark.new.self) c.from.ensures c.in_ok-mark.ensures.marked) is.downs_are is.ups_are (c.frames.ensures.goes head _ (c.in_ok-deliver.ensures.goes head r _ is.running))
