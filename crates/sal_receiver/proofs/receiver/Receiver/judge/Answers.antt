use Rattle.std.proofs.Common.{map, ap, ◌∙◌}
use Rattle.sal_receiver.specs.Pending.{frame_unshared, without}
use Rattle.sal_receiver.proofs.SeenLemmas.{without_seen}
use Rattle.sal_receiver.proofs.BookLemmas.{with_frames}
use Rattle.sal_receiver.proofs.receiver.Receiver.judge.Goals as goal

pub returns-then-ne-clause-kept : goal.returns-then-ne-clause-kept
returns-then-ne-clause-kept g c =
    with_frames c.args.self.now c.self.inside.known c.self.inside.slots c.self.inside.store (map frame_unshared c.self.inside.frames.items) (map frame_unshared c.remove.new.items.items) c.self.inside.last (without c.args.number) c.self.view_is
    (ap (λ xs. map frame_unshared xs) c.remove.ensures ∙ without_seen c.args.number c.self.inside.frames.items)
