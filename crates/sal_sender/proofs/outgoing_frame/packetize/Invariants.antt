use Rattle.std.proofs.Common.{◌≡◌}
use Rattle.sal_sender.specs.Packetizing.{datagrams_of}
use Rattle.sal_sender.proofs.outgoing_frame.packetize.Given as goal

abbrev pub invariant-loop-index : goal.invariant-loop-index
invariant-loop-index l = l.burst ≡ datagrams_of l.outgoing l.index
