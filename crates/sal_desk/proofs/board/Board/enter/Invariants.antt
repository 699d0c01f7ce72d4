use Rattle.std.proofs.Common.{◌≡◌}
use Rattle.sal_desk.proofs.board.Board.enter.Given as goal

abbrev pub invariant-look : goal.invariant-look
invariant-look g l =
    (goal.iterator-look g).can_next l.iterator' × (goal.iterator-look g).is_finite l.iterator' × (l.place.table_id ≡ l.initial.place.table_id) × (l.place.me ≡ l.initial.place.me)
