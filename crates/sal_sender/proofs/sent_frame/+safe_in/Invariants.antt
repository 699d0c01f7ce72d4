use Rattle.std.proofs.Common.{length}
use Rattle.sal_sender.proofs.sent_frame.+safe_in.Given as goal

abbrev pub decreases-safe_in : goal.decreases-safe_in
decreases-safe_in l = length l.sent_frames.now
