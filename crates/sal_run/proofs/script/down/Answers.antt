use Rattle.std.proofs.Common.{sym, ap, ◌∙◌, length}
use Rattle.sal_script.specs.declared.line.ScriptLine.TheVariants.{Down}
use Rattle.sal_world.specs.World.{sent}
use Rattle.sal_world.specs.Script.{down}
use Rattle.sal_run.specs.Loop.{session_of}
use Rattle.sal_run.proofs.Onward.{number_is, down_bad, down_unfolds, plain_goes, down_grows}
use Rattle.sal_run.proofs.script.down.Goals as goal

pub returns-then-not-is_number-clause-goes : goal.returns-then-not-is_number-clause-goes
returns-then-not-is_number-clause-goes g c head before m left r is =
    let n = c.from-last.ensures ∙ (c.datagrams.ensures (session_of head) r.events is.running.stands ∙ ap (λ w. length (sent w)) (sym is.running.world)) in
    λ more. down_bad g.C.Codec.coding head c.args.number c.args.which m more left _ _ r (number_is _ _ c.args.which _ _ _ c.is_number.ensures c.if-not-is_number.true c.from.ensures n) is.running

pub returns-clause-goes : goal.returns-clause-goes
returns-clause-goes g c head before m left r is =
    let n = c.from-last.ensures ∙ (c.datagrams.ensures (session_of head) r.events is.running.stands ∙ ap (λ w. length (sent w)) (sym is.running.world)) in
    plain_goes g.C.Codec.coding head g.J.Diary.gives before (c.args.number, Down c.args.which) (down g.C.Codec.coding (session_of head) c.args.which) m left _ _ _ _ _ _ _ _ r c.down.result
    (λ q. down_grows g.C.Codec.coding head c.args.which q) (down_unfolds g.C.Codec.coding head c.args.number c.args.which r (number_is _ _ c.args.which _ _ _ c.is_number.ensures c.if-not-is_number.false c.from.ensures n)) is (λ q at. c.down.ensures.comes head q at)
