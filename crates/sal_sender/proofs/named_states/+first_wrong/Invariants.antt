use Rattle.std.proofs.Common.{length}
use Rattle.sal_sender.proofs.named_states.+first_wrong.Given as goal

abbrev pub decreases-first_wrong : goal.decreases-first_wrong
decreases-first_wrong g l = length l.held.now
