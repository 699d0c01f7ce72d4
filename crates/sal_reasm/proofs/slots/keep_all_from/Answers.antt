use Rattle.sal_reasm.specs.Step.{unless_below}
use Rattle.sal_reasm.proofs.Places.{kept_one}
use Rattle.sal_reasm.proofs.slots.keep_all_from.Goals as goal

pub loop-there-preserved : goal.loop-there-preserved
loop-there-preserved c = kept_one (unless_below c.args.floor) c.args.frames.now c.loop-there.there-index _ _ _ c.loop-there-test.true c.loop-there.invariant c.keep_from.ensures
