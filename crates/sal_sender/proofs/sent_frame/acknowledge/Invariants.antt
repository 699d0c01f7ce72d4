use Rattle.std.proofs.Common.{◌≡◌, ◌++◌, map, take, drop}
use Rattle.sal_sender.specs.SentFrames.{acknowledged_by}
use Rattle.sal_sender.proofs.sent_frame.acknowledge.Given as goal

abbrev pub invariant-loop-sent_frame : goal.invariant-loop-sent_frame
invariant-loop-sent_frame l = l.sent_frames ≡ map (acknowledged_by l.held) (take l.sent_frame-index l.initial.sent_frames) ++ drop l.sent_frame-index l.initial.sent_frames
