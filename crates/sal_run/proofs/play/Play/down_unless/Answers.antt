use Rattle.std.proofs.Common.{sym, ap, ◌∙◌}
use Rattle.sal_world.specs.Script.{down}
use Rattle.sal_run.specs.Loop.{session_of}
use Rattle.sal_run.specs.Marks.{is_marked}
use Rattle.sal_run.proofs.Walks.{unless_comes, already_comes, already_marked}
use Rattle.sal_run.proofs.play.Play.down_unless.Goals as goal

pub returns-then-has-clause-comes : goal.returns-then-has-clause-comes
returns-then-has-clause-comes g c head r is = already_comes g.C.Codec.coding head g.J.Diary.gives _ _ _ _ c.args.self.now.downs (down g.C.Codec.coding (session_of head)) c.args.number r (sym (c.has.ensures ∙ ap (λ k. is_marked c.args.self.now.downs k) c.from.ensures) ∙ c.if-has.true) is

pub returns-then-has-clause-marked : goal.returns-then-has-clause-marked
returns-then-has-clause-marked g c = already_marked c.args.number c.args.self.now.downs (sym (c.has.ensures ∙ ap (λ k. is_marked c.args.self.now.downs k) c.from.ensures) ∙ c.if-has.true)

pub returns-clause-comes : goal.returns-clause-comes
returns-clause-comes g c head r is = unless_comes g.C.Codec.coding head g.J.Diary.gives _ _ _ _ c.args.self.now.downs (down g.C.Codec.coding (session_of head)) c.args.number r c.down.result (sym (c.has.ensures ∙ ap (λ k. is_marked c.args.self.now.downs k) c.from.ensures) ∙ c.if-has.false) (c.down.ensures.comes head r is)
