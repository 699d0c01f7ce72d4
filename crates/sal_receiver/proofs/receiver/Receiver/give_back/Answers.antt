use Rattle.std.proofs.Common.{map, ap, ◌∙◌}
use Rattle.sal_receiver.specs.declared.pending_frame.Stage.TheVariants as stages
use Rattle.sal_receiver.specs.Pending.{frame_unshared, restaged}
use Rattle.sal_receiver.proofs.SeenLemmas.{restaged_seen}
use Rattle.sal_receiver.proofs.BookLemmas.{with_frames}
use Rattle.sal_receiver.proofs.receiver.Receiver.give_back.Goals as goal

pub returns-clause-kept : goal.returns-clause-kept
returns-clause-kept g c =
    with_frames c.args.self.now c.self.inside.known c.self.inside.slots c.self.inside.store (map frame_unshared c.self.inside.frames.items) (map frame_unshared c.restage.new.items.items) c.self.inside.last (restaged c.args.ready.number (stages.Ready c.args.ready.source c.args.ready.bytes)) c.self.view_is
    (ap (λ xs. map frame_unshared xs) c.restage.ensures
    ∙ (restaged_seen _ _ c.self.inside.frames.items
    ∙ ap (λ h. restaged h.number (stages.Ready h.source h.bytes) (map frame_unshared c.self.inside.frames.items)) c.into_task-task.ensures))
