use Rattle.std.proofs.Common.{arith, ap, refl, sym, subst}
use Rattle.sal_desk.specs.Desk.{IsResting, parting, newcomer}
use Rattle.sal_desk.proofs.Seats.{splits, same_state}
use Rattle.sal_desk.proofs.board.Board.split.Goals as goal

pub split_seat-requires : goal.split_seat-requires
split_seat-requires g c =
    let shape = c.args.self.now.shape in
    let words = shape.0 in
    (c.requires.own.0, omega arith, splits g.M.Machine.stands g.M.Machine.follows _ c.args.place.now.id c.args.place.now.me.0 _ c.requires.rests.0 c.requires.own.1)

pub returns-clause-split : goal.returns-clause-split
returns-clause-split g c =
    let m = g.M.Machine in
    same_state m.stands m.follows c.args.self.now.table.shared.key.value c.args.place.now.table_id _ (parting c.args.place.now.me.0) _ c.split_seat.ensures.0 (ap (λ x. x.0) c.split_seat.ensures.2)

pub returns-clause-split_off : goal.returns-clause-split_off
returns-clause-split_off g c =
    let m = g.M.Machine in
    same_state m.stands m.follows c.args.self.now.table.shared.key.value c.args.place.now.table_id _ (newcomer c.args.place.now.me.0) _ c.split_seat.ensures.3 (ap (λ x. x.0) c.split_seat.ensures.4)

pub returns-clause-rests : goal.returns-clause-rests
returns-clause-rests g c = subst IsResting (sym c.split_seat.ensures.2) c.requires.rests

pub returns-clause-split_off_rests : goal.returns-clause-split_off_rests
returns-clause-split_off_rests g c = subst IsResting (sym c.split_seat.ensures.4) (refl, (refl, refl))
