use Rattle.std.proofs.Common.{sym, ◌∙◌}
use Rattle.sal_world.specs.Script.{up}
use Rattle.sal_run.specs.Loop.{session_of}
use Rattle.sal_run.proofs.Walks.{unless_comes, already_comes, already_marked}
use Rattle.sal_run.proofs.play.Play.up_unless.Goals as goal

pub returns-then-has-clause-comes : goal.returns-then-has-clause-comes
returns-then-has-clause-comes g c head r held is = already_comes g.C.Codec.coding head g.J.Diary.gives _ _ _ held c.args.self.now.ups (up g.C.Codec.coding (session_of head)) c.args.number r (sym c.has.ensures ∙ c.if-has.true) is

pub returns-then-has-clause-marked : goal.returns-then-has-clause-marked
returns-then-has-clause-marked g c = already_marked c.args.number c.args.self.now.ups (sym c.has.ensures ∙ c.if-has.true)

pub returns-clause-comes : goal.returns-clause-comes
returns-clause-comes g c head r held is = unless_comes g.C.Codec.coding head g.J.Diary.gives _ _ _ held c.args.self.now.ups (up g.C.Codec.coding (session_of head)) c.args.number r c.up.result (sym c.has.ensures ∙ c.if-has.false) (c.up.ensures.comes head r held is)
