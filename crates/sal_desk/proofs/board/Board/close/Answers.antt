use Rattle.sal_desk.proofs.Seats.{closes, taken_out, not_empty}
use Rattle.sal_desk.proofs.board.Board.close.Goals as goal

pub unreachable-requires : goal.unreachable-requires
unreachable-requires g c =
    let m = g.M.Machine in
    let ends = closes m.stands m.follows _ c.args.place.table_id _ c.args.place.me.0 _ _ _ c.requires.rests.0 c.requires.own.1 c.requires.back c.close_with-closed.ensures.values.2 in
    not_empty m.stands m.follows _ c.args.place.table_id c.args.place.me.0 _ _ ends c.take-slot.ensures.value c.in_default.is

pub returns : goal.returns
returns g c =
    let m = g.M.Machine in
    let ends = closes m.stands m.follows _ c.args.place.table_id _ c.args.place.me.0 _ _ _ c.requires.rests.0 c.requires.own.1 c.requires.back c.close_with-closed.ensures.values.2 in
    taken_out m.stands m.follows _ c.args.place.table_id c.args.place.me.0 _ _ _ ends c.take-slot.ensures.value c.in-Some.is
