use Rattle.sal_world.specs.World.{Reports, after}
use Rattle.sal_world.proofs.SenderSteps.{report_happens, report_kept, report_late}
use Rattle.sal_world.proofs.Stepped.{lifted, handed_out_own, handed_out_size, opened_size}
use Rattle.sal_world.proofs.world.World.report.Goals as goal

pub report-requires-clause-size : goal.report-requires-clause-size
report-requires-clause-size g c κs within =
    opened_size g.C.Codec.coding c.requires.may.0 _ c.args.self.now c.requires.may.1.0 c.args.report.work.samples c.self.view_is c.requires.may.1.1.0 (handed_out_size g.C.Codec.coding c.requires.may.0 c.requires.may.1.0 c.args.report.work c.requires.may.1.1.0.sizes c.requires.may.1.1.1)

pub returns-clause-answered : goal.returns-clause-answered
returns-clause-answered g c session events stands out =
    lifted g.C.Codec.coding session c.args.self.now _ events (Reports c.args.report.work.id c.args.report.gave) _ _ stands tt
    (report_happens g.C.Codec.coding session _ c.args.self.now c.report.new.self (after g.C.Codec.coding session events) c.args.report.work c.args.report.gave c.report.result c.self.view_is stands.world (handed_out_own g.C.Codec.coding session events c.args.report.work out) c.report.ensures.answered c.report.ensures.session)

pub returns-clause-refused : goal.returns-clause-refused
returns-clause-refused g c = report_kept _ c.args.self.now c.report.new.self c.report.result c.self.view_is c.report.ensures.refused

pub returns-clause-late : goal.returns-clause-late
returns-clause-late g c = report_late _ c.args.self.now c.report.new.self c.args.report c.report.result c.self.view_is c.report.ensures.after

pub returns-clause-promises : goal.returns-clause-promises
returns-clause-promises g c session events stands = c.keeps_every_promise.ensures session stands.session_is events stands.sizes
