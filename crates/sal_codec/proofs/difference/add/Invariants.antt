use Rattle.sal_codec.specs.Plain.{plus}
use Rattle.sal_codec.proofs.Samplewise.{IsDone}
use Rattle.sal_codec.proofs.difference.add.Given as goal

abbrev pub invariant-loop-at : goal.invariant-loop-at
invariant-loop-at l = IsDone plus l.fn.samples l.source l.samples l.at
