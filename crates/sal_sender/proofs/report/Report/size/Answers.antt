use Rattle.sal_sender.proofs.Picks.{frame_sound}
use Rattle.sal_sender.proofs.report.Report.size.Goals as goal

pub count-requires : goal.count-requires
count-requires g c = (frame_sound g.C.Codec.coding c.self.inside.job c.self.inside.outcome c.in-Frame.bytes c.in-Frame.field-1 c.in-Frame.field-2 c.keeps_the_law.ensures c.source_name-name.ensures.may c.self.invariant.0 c.in-Frame.is).frame.counted
