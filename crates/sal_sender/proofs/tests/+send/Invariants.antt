use Rattle.sal_sender.proofs.tests.+send.Given as goal

abbrev pub decreases-send : goal.decreases-send
decreases-send l = l.count
