use Rattle.std.proofs.Common.{ap, ◌∙◌, arith}
use Rattle.std.proofs.lemmas.List.{get_or_default}
use Rattle.std.proofs.lemmas.List.Edits.{map_over_more}
use Rattle.std.proofs.Math.ListN.{set}
use Rattle.sal_sender.specs.SentFrames.{acknowledged_by}
use Rattle.sal_sender.proofs.sent_frame.acknowledge.Goals as goal

pub loop-sent_frame-preserved : goal.loop-sent_frame-preserved
loop-sent_frame-preserved c =
    ap (λ v. set c.loop-sent_frame.sent_frames c.loop-sent_frame.sent_frame-index v) c.acknowledged_by.ensures
    ∙ map_over_more (acknowledged_by c.args.held.now) c.args.sent_frames.now c.loop-sent_frame.sent_frames c.loop-sent_frame.sent_frame-index _ c.loop-sent_frame-test.true c.loop-sent_frame.invariant (get_or_default c.loop-sent_frame.sent_frames c.loop-sent_frame.sent_frame-index _ _ (omega (arith, c.loop-sent_frame-test.true, c.loop-sent_frame.auto.sent_frames)))
