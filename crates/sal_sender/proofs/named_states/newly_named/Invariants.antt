use Rattle.sal_sender.proofs.NewlyNamed.{IsSoFar}
use Rattle.sal_sender.proofs.named_states.newly_named.Given as goal

abbrev pub invariant-loop-h : goal.invariant-loop-h
invariant-loop-h l = IsSoFar l.sent_frames l.floor l.held l.h-index l.numbers
