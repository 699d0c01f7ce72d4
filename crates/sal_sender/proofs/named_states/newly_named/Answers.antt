use Rattle.std.proofs.Common.{sym, ◌∙◌, subst, ◌+◌}
use Rattle.sal_sender.proofs.NewlyNamed.{IsSoFar, newly_added, newly_left}
use Rattle.sal_sender.proofs.named_states.newly_named.Goals.{then-is_new, else-is_new}
use Rattle.sal_sender.proofs.named_states.newly_named.Goals as goal

pub loop-h-preserved : goal.loop-h-preserved
loop-h-preserved c = elim c.if-is_new.branch [
  | then-is_new w ↦ subst (λ ns. IsSoFar c.args.sent_frames.now c.args.floor c.args.held.now (c.loop-h.h-index + 1) ns) (sym w.numbers-is) (newly_added c.args.sent_frames.now c.args.floor c.args.held.now c.loop-h.h-index _ c.loop-h.numbers w.push.new.self c.loop-h-test.true c.loop-h.invariant (sym c.is_new.ensures ∙ w.if-is_new.true) w.push.ensures)
  | else-is_new w ↦ subst (λ ns. IsSoFar c.args.sent_frames.now c.args.floor c.args.held.now (c.loop-h.h-index + 1) ns) (sym w.numbers-is) (newly_left c.args.sent_frames.now c.args.floor c.args.held.now c.loop-h.h-index _ c.loop-h.numbers c.loop-h-test.true c.loop-h.invariant (sym c.is_new.ensures ∙ w.if-is_new.false))
]
