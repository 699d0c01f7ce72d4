use Rattle.std.proofs.Common.{arith}
use Rattle.sal_desk.proofs.Turns.{draws}
use Rattle.sal_desk.proofs.board.Board.draw.Goals as goal

pub compare_exchange-requires : goal.compare_exchange-requires
compare_exchange-requires g c =
    let shape = c.args.self.now.shape in
    let words = shape.0 in
    (c.requires.own, omega arith, draws g.M.Machine.stands g.M.Machine.follows _ _ c.args.place.now.id c.args.ticket c.args.place.now.me c.requires.idle.2.0 c.requires.idle.0 c.requires.idle.2.1 c.requires.below)
