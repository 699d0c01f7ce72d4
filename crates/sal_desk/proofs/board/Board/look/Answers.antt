use Rattle.std.proofs.Common.{arith}
use Rattle.sal_desk.proofs.Turns.{looks}
use Rattle.sal_desk.proofs.board.Board.look.Goals as goal

pub load-requires : goal.load-requires
load-requires g c =
    let shape = c.args.self.now.shape in
    let words = shape.0 in
    (c.requires.own.0, omega arith, looks g.M.Machine.stands g.M.Machine.follows _ _ c.args.place.now.id c.args.ticket c.args.place.now.me c.requires.waiting.0 _ c.requires.own.1 c.requires.waiting.1)

pub returns-clause-looked : goal.returns-clause-looked
returns-clause-looked g c = c.load.ensures.2 _ _ c.requires.own.1 c.requires.waiting.0
