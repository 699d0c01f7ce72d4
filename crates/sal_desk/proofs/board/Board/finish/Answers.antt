use Rattle.std.proofs.Common.{arith, ap, sym, subst, ◌∙◌, ◌∷◌, [], ◌++◌, Some}
use Rattle.atomic_table.specs.Table.{rest}
use Rattle.sal_desk.specs.Histories.{entries, listed, unnamed}
use Rattle.sal_desk.proofs.Turns.{finishes}
use Rattle.sal_desk.proofs.board.Board.finish.Goals as goal

pub fetch_add-requires : goal.fetch_add-requires
fetch_add-requires g c =
    let shape = c.args.self.now.shape in
    let words = shape.0 in
    let m = c.exchange-before.ensures.3 in
    let w = c.requires.working in
    let l = c.requires.longer in (
      c.exchange-before.ensures.0 ∙ c.requires.own.0,
      omega arith,
      finishes g.M.Machine.stands g.M.Machine.follows c.args.self.now.table.shared.key.value _ _ w.0 l.0 c.args.kept c.exchange-before.new.seat.me (ap (λ x. x.0.stage) m ∙ w.1) (ap (λ x. x.0.start) m ∙ c.requires.own.1)
          (ap (λ x. x.1) m ∙ ap (λ r. (0, Some c.args.kept) ∷ rest r) c.requires.slot)
          (l.1.0 ∙ ap (λ x. unnamed x.0.seen ++ l.0 ∷ []) (sym m)) (λ e is. subst (λ x. g.M.Machine.follows c.args.self.now.table.shared.key.value (entries x.0.seen) e) (sym m) (l.1.1 e is))
          (subst (λ x. g.M.Machine.stands c.args.self.now.table.shared.key.value c.args.kept.machine (entries x.0.seen ++ listed l.0)) (sym m) l.1.2),
    )
