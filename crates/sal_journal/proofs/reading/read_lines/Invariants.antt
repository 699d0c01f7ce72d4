use Rattle.std.proofs.Common.{length}
use Rattle.sal_journal.proofs.LinesRead.{Onward}
use Rattle.sal_journal.proofs.reading.read_lines.Given as goal

abbrev pub invariant-loop-event : goal.invariant-loop-event
invariant-loop-event l = Onward l.text l.events l.number l.rest

abbrev pub decreases-loop-event : goal.decreases-loop-event
decreases-loop-event l = length l.rest
