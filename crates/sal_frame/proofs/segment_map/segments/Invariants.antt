use Rattle.std.proofs.Common.{◌≡◌, map, take}
use Rattle.sal_filter.specs.declared.head.MbInfo.{MbInfo}
use Rattle.sal_frame.proofs.segment_map.segments.Given as goal

abbrev pub invariant-loop-info : goal.invariant-loop-info
invariant-loop-info l = l.segments.items ≡ map (λ (info : MbInfo). info.mode.segment) (take l.info-index l.infos)
