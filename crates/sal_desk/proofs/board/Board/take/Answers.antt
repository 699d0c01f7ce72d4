use Rattle.std.proofs.Common.{ap, ◌∙◌, sym, Some, ◌∷◌}
use Rattle.atomic_table.specs.Table.{rest}
use Rattle.sal_desk.proofs.Acting.{taken}
use Rattle.sal_desk.proofs.board.Board.take.Goals as goal

pub exchange-before-requires : goal.exchange-before-requires
exchange-before-requires g c =
    let turn = c.enter-ticket.ensures.turn in
    let slot = turn.slot in
    (c.enter-ticket.ensures.own ∙ c.requires.own.0, (Some turn.kept, slot ∙ ap (λ r. (0, Some turn.kept) ∷ r) (sym (ap rest slot))))

pub returns-clause-taken : goal.returns-clause-taken
returns-clause-taken g c =
    taken g.M.Machine.stands g.M.Machine.answers g.M.Machine.follows g.M.Machine.voided g.M.Machine.may _ _ _ _ _ _ _ c.enter-ticket.ensures.turn c.exchange-before.ensures.2 c.in-Some.is c.exchange-before.ensures.3
