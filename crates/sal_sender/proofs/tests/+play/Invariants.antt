use Rattle.std.proofs.Common.{length}
use Rattle.sal_sender.proofs.tests.+play.Given as goal

abbrev pub decreases-play : goal.decreases-play
decreases-play l = length l.events.now
