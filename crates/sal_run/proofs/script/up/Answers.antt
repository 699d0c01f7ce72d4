use Rattle.std.proofs.Common.{◌∙◌}
use Rattle.sal_script.specs.declared.line.ScriptLine.TheVariants.{Up}
use Rattle.sal_world.specs.Script.{up}
use Rattle.sal_run.specs.Loop.{session_of}
use Rattle.sal_run.proofs.Turns.{acks_long}
use Rattle.sal_run.proofs.Onward.{number_is, up_bad, up_unfolds, plain_goes, up_grows, comes_at}
use Rattle.sal_run.proofs.script.up.Goals as goal

pub returns-then-not-is_number-clause-goes : goal.returns-then-not-is_number-clause-goes
returns-then-not-is_number-clause-goes g c head before m left r held is =
    let n = c.acks.ensures ∙ acks_long g.C.Codec.coding head _ held r is.running in
    λ more. up_bad g.C.Codec.coding head c.args.number c.args.which m more left held _ r (number_is _ _ c.args.which _ _ _ c.is_number.ensures c.if-not-is_number.true c.from-wanted.ensures n) is.running

pub returns-clause-goes : goal.returns-clause-goes
returns-clause-goes g c head before m left r held is =
    let n = c.acks.ensures ∙ acks_long g.C.Codec.coding head _ held r is.running in
    plain_goes g.C.Codec.coding head g.J.Diary.gives before (c.args.number, Up c.args.which) (up g.C.Codec.coding (session_of head) c.args.which) m left _ _ _ _ _ _ held held r c.up.result
    (λ q. up_grows g.C.Codec.coding head c.args.which q) (up_unfolds g.C.Codec.coding head c.args.number c.args.which r (number_is _ _ c.args.which _ _ _ c.is_number.ensures c.if-not-is_number.false c.from-wanted.ensures n)) is
    (λ q at. comes_at g.C.Codec.coding head g.J.Diary.gives _ _ _ held (up g.C.Codec.coding (session_of head)) _ c.args.which q c.up.result c.from-wanted.ensures (c.up.ensures.comes head q held at))
