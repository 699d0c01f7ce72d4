use Rattle.std.proofs.Common.{◌∙◌, ap, ◌++◌, ◌∷◌, [], Some, sym, subst}
use Rattle.atomic_table.specs.Table.{opening}
use Rattle.sal_desk.specs.declared.view.Kept.{Kept}
use Rattle.sal_desk.specs.Desk.{Ruled, first_view}
use Rattle.sal_desk.proofs.Turns.{opens}
use Rattle.sal_desk.proofs.board.Board.new.Goals as goal

pub new-requires-2 : goal.new-requires-2
new-requires-2 g c =
    let k : Kept _ _ = record { machine = c.args.machine; history = c.new.result } in
    subst (λ x. Ruled g.M.Machine.stands g.M.Machine.follows x (opening (0 ∷ 0 ∷ []) c.push_reserved.new.self.items (first_view x))) (sym c.of-start.ensures)
    (opens g.M.Machine.stands g.M.Machine.follows c.args.machine k _ (c.push_reserved.ensures.items ∙ ap (λ l. l ++ Some k ∷ []) (c.in_ok-reserve.ensures.items ∙ c.new-slots.ensures.items)) c.new.ensures c.requires)
