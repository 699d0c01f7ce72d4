use Rattle.std.proofs.lemmas.Result.{IfOk-weaker}
use Rattle.sal_frame.proofs.MapAfter.{map_named, small_segments}
use Rattle.sal_frame.proofs.segment_map.map_after.Goals as goal

pub returns-then-header-clause-after : goal.returns-then-header-clause-after
returns-then-header-clause-after c f header noted = IfOk-weaker c.segments.result _ _ (λ m named. map_named f c.args.header.now c.args.infos.now c.args.old.now m c.if-header.true header noted named) c.segments.ensures

pub returns-then-header-clause-segments : goal.returns-then-header-clause-segments
returns-then-header-clause-segments c = IfOk-weaker c.segments.result _ _ (λ m named. small_segments c.args.infos.now m named c.requires.segments) c.segments.ensures
