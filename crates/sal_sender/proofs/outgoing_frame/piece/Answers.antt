use Rattle.sal_sender.proofs.Bursts.{piece_cut}
use Rattle.sal_sender.proofs.outgoing_frame.piece.Goals as goal

pub returns : goal.returns
returns c = piece_cut c.args.bytes.now c.args.index c.min.result c.min.ensures
