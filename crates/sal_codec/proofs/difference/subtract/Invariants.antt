use Rattle.sal_codec.specs.Plain.{less}
use Rattle.sal_codec.proofs.Samplewise.{IsDone}
use Rattle.sal_codec.proofs.difference.subtract.Given as goal

abbrev pub invariant-loop-at : goal.invariant-loop-at
invariant-loop-at l = IsDone less l.fn.samples l.source l.samples l.at
