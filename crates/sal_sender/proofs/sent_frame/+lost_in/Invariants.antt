use Rattle.std.proofs.Common.{length}
use Rattle.sal_sender.proofs.sent_frame.+lost_in.Given as goal

abbrev pub decreases-lost_in : goal.decreases-lost_in
decreases-lost_in l = length l.sent_frames.now
