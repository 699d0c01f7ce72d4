use Rattle.std.proofs.Common.{length}
use Rattle.sal_script.proofs.JudgeLemmas.{Stands}
use Rattle.sal_script.proofs.reading.parse_lines.Given as goal

abbrev pub invariant-loop-rest : goal.invariant-loop-rest
invariant-loop-rest l = Stands l.text l.script l.number l.end l.rest

abbrev pub decreases-loop-rest : goal.decreases-loop-rest
decreases-loop-rest l = length l.rest
