use Rattle.std.proofs.Common.{arith, false}
use Rattle.sal_world.specs.Script.{next_picture, down_all}
use Rattle.sal_run.specs.Loop.{session_of}
use Rattle.sal_run.specs.Turns.{is_late}
use Rattle.sal_run.proofs.Turns.{no_out, never_stop, later_cause}
use Rattle.sal_run.proofs.Onward.{exchange_next, up_all_grows}
use Rattle.sal_run.proofs.Walks.{grown_exit}
use Rattle.sal_run.proofs.play.Play.exchange.Goals as goal

pub returns-in_err-next-clause-comes : goal.returns-in_err-next-clause-comes
returns-in_err-next-clause-comes g c head r is size =
    grown_exit g.C.Codec.coding head g.J.Diary.gives _ _ _ _ _ _ c.from_residual.result _ (exchange_next g.C.Codec.coding head c.args.picture r) c.from_residual.ensures.1 (c.in_err-next.ensures.comes head r _ is size)

pub returns-in_err-next-clause-out_cause : goal.returns-in_err-next-clause-out_cause
returns-in_err-next-clause-out_cause g c = no_out c.from_residual.result _ _ _ (omega arith) c.from_residual.ensures.1 (never_stop _ c.in_err-next.ensures.never)

pub returns-in_err-down_all-clause-comes : goal.returns-in_err-down_all-clause-comes
returns-in_err-down_all-clause-comes g c head r is size =
    grown_exit g.C.Codec.coding head g.J.Diary.gives _ _ _ _ _ _ c.from_residual-in_err-down_all.result _ (up_all_grows g.C.Codec.coding head (down_all g.C.Codec.coding (session_of head) (next_picture g.C.Codec.coding (session_of head) (is_late false) c.args.picture r))) c.from_residual-in_err-down_all.ensures.1 (c.in_err-down_all.ensures.comes head _ (c.in_ok-next.ensures.comes head r _ is size))

pub returns-clause-comes : goal.returns-clause-comes
returns-clause-comes g c head r is size =
    c.up_all.ensures.comes head _ _ (c.in_ok-down_all.ensures.comes head _ (c.in_ok-next.ensures.comes head r _ is size))

pub down_all-requires-clause-runs : goal.down_all-requires-clause-runs
down_all-requires-clause-runs g c κs within =
    let head = c.requires.runs.0 in
    let r = c.requires.runs.1.0 in
    (head, (_, c.in_ok-next.ensures.comes head r _ c.requires.runs.1.1.0 c.requires.runs.1.1.1))

pub up_all-requires-clause-runs : goal.up_all-requires-clause-runs
up_all-requires-clause-runs g c κs within =
    let head = c.requires.runs.0 in
    let r = c.requires.runs.1.0 in
    (head, (_, (_, c.in_ok-down_all.ensures.comes head _ (c.in_ok-next.ensures.comes head r _ c.requires.runs.1.1.0 c.requires.runs.1.1.1))))

pub returns-clause-journal_cause : goal.returns-clause-journal_cause
returns-clause-journal_cause g c =
    later_cause _ _ _ _ c.up_all.result (let a = c.in_ok-next.ensures.journal_cause.later in let b = c.in_ok-down_all.ensures.journal_cause.later in omega (arith, a, b)) c.up_all.ensures.journal_cause
