use Rattle.std.proofs.Common.{arith, ap, refl, ◌∙◌}
use Rattle.sal_desk.proofs.Seats.{joins, compares, joined, joined_rests, joined_started}
use Rattle.sal_desk.proofs.board.Board.join.Goals as goal

pub join_seat-requires : goal.join_seat-requires
join_seat-requires g c =
    let shape = c.args.self.now.shape in
    let words = shape.0 in (
      c.requires.own.0,
      c.requires.other_own.0,
      c.requires.other_rests.1.0,
      omega arith,
      joins g.M.Machine.stands g.M.Machine.follows _ _ _ _ _ _ _ c.requires.rests.0 c.requires.own.1 c.requires.other_rests.0 c.requires.other_own.1,
    )

pub load-requires : goal.load-requires
load-requires g c =
    let shape = c.args.self.now.shape in
    let words = shape.0 in
    let me = c.join_seat.ensures.2 in
    (c.join_seat.ensures.0 ∙ c.requires.own.0, omega arith, compares g.M.Machine.stands g.M.Machine.follows _ _ _ _ _ (ap (λ m. m.0.stage) me ∙ c.requires.rests.0) (ap (λ m. m.0.start) me ∙ c.requires.own.1))

pub returns-clause-own : goal.returns-clause-own
returns-clause-own g c =
    let m = g.M.Machine in
    (c.load.ensures.0 ∙ (c.join_seat.ensures.0 ∙ c.requires.own.0), joined_started m.stands m.follows c.args.self.now.table.shared.key.value c.args.other.me.0 c.args.place.now.me c.join_seat.new.seat.me c.load.new.seat.me _ c.requires.own.1 c.join_seat.ensures.2 c.load.ensures.2)

pub returns-clause-rests : goal.returns-clause-rests
returns-clause-rests g c =
    let m = g.M.Machine in
    joined_rests m.stands m.follows c.args.self.now.table.shared.key.value c.args.other.me.0 c.args.place.now.me c.join_seat.new.seat.me c.load.new.seat.me c.requires.rests c.join_seat.ensures.2 c.load.ensures.2

pub returns-clause-joined : goal.returns-clause-joined
returns-clause-joined g c =
    let m = g.M.Machine in
    joined m.stands m.follows c.args.self.now.table.shared.key.value c.args.place.now.me.0 c.args.other.me.0 c.args.place.now.me c.join_seat.new.seat.me c.load.new.seat.me refl c.join_seat.ensures.2 c.load.ensures.2 _ _ _
