use Rattle.sal_modes.proofs.VectorLemmas.{sign_unread}
use Rattle.sal_modes.proofs.vectors.read_negative.Goals as goal

pub returns-then-size-eq0 : goal.returns-then-size-eq0
returns-then-size-eq0 c = record { reads = sign_unread c.args.probability c.args.size c.args.decoder.now c.if-size-eq0.true }
