use Rattle.sal_sender.proofs.Bursts.{part_meets}
use Rattle.sal_sender.proofs.outgoing_frame.datagram.Goals as goal

pub write-requires : goal.write-requires
write-requires c = part_meets c.args.outgoing.now c.args.index c.if-index-eq0.fragment c.piece.result.now c.requires.outgoing c.requires.index c.piece.ensures
