use Rattle.std.proofs.Common.{◌≡◌}
use Rattle.sal_desk.proofs.board.Board.queue.Given as goal

abbrev pub invariant-draw : goal.invariant-draw
invariant-draw g l =
    (goal.iterator-draw g).can_next l.iterator' × (goal.iterator-draw g).is_finite l.iterator' × (l.place.table_id ≡ l.fn.place.table_id) × (l.place.me ≡ l.fn.place.me)
