use Rattle.std.proofs.Common.{map, ap, sym, ◌∙◌}
use Rattle.std.specs.Arc.{arc_value}
use Rattle.std.specs.Option.{option_map}
use Rattle.sal_wire.specs.Fields.{fields_of}
use Rattle.sal_receiver.specs.Pending.{frame_unshared, frame_inserted}
use Rattle.sal_receiver.specs.Machine.{entered}
use Rattle.sal_receiver.proofs.SeenLemmas.{put_seen}
use Rattle.sal_receiver.proofs.entering.add.Goals as goal

pub returns-in-Complete : goal.returns-in-Complete
returns-in-Complete g c =
    ap (λ xs. map frame_unshared xs) c.put.ensures
    ∙ (put_seen c.complete.result c.args.frames.now.items
    ∙ (ap (λ p. frame_inserted p (map frame_unshared c.args.frames.now.items)) c.complete.ensures
    ∙ ap (λ o. entered o (fields_of c.args.fragment.now) (option_map arc_value c.args.source) (map frame_unshared c.args.frames.now.items)) (sym c.in-Complete.is)))
