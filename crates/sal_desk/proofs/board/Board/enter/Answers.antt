use Rattle.std.proofs.Common.{ap, ◌∙◌}
use Rattle.sal_desk.proofs.Acting.{same_turn}
use Rattle.sal_desk.proofs.board.Board.enter.Goals as goal

pub returns-then-look-clause-turn : goal.returns-then-look-clause-turn
returns-then-look-clause-turn g c =
    same_turn g.M.Machine.stands g.M.Machine.answers g.M.Machine.follows g.M.Machine.voided g.M.Machine.may _ _ _ _ _ _ (ap (λ m. m.0) (c.look.invariant.3 ∙ c.queue-ticket.ensures.waits)) (c.if-look.ensures).looked
