use Rattle.std.proofs.Common.{refl}
use Rattle.std.specs.Arc.{arc_value}
use Rattle.sal_world.specs.declared.event.Event.TheVariants.{Next, Take, Report, Choose, Down, Up, Ready, Decoded, Moment}
use Rattle.sal_world.specs.declared.event.Answer.TheVariants.{Take as TakeSaid, Report as ReportSaid, Ready as ReadySaid, Decoded as DecodedSaid, Moment as MomentSaid}
use Rattle.sal_world.specs.World.{Starts, TakesJob, Reports, Chooses, Delivers, Hears, TakesReady, Decodes, Passes, after}
use Rattle.sal_world.specs.Answers.{did_decode, of_next, of_choose, of_deliver, of_hear}
use Rattle.sal_world.proofs.Stepped.{may_as, stepped_as, takes_as, as_answer, as_unless, session_size, lacks_next, lacks_deliver, lacks_hear}
use Rattle.sal_world.proofs.world.World.happen.Goals as goal

pub next_picture-requires-clause-size : goal.next_picture-requires-clause-size
next_picture-requires-clause-size g c κs within =
    session_size g.C.Codec.coding c.requires.may.0 c.args.self.now c.requires.may.1.0 (arc_value c.in-Next.picture) c.requires.may.1.1.0 (may_as g.C.Codec.coding c.requires.may.0 c.requires.may.1.0 c.args.event (Next c.in-Next.picture) c.in-Next.is c.requires.may.1.1.1)

pub report-requires-clause-may : goal.report-requires-clause-may
report-requires-clause-may g c κs within =
    (c.requires.may.0, (c.requires.may.1.0, (c.requires.may.1.1.0, may_as g.C.Codec.coding c.requires.may.0 c.requires.may.1.0 c.args.event (Report c.in-Report.report) c.in-Report.is c.requires.may.1.1.1)))

pub choose-requires-clause-stands : goal.choose-requires-clause-stands
choose-requires-clause-stands g c κs within = (c.requires.may.0, (c.requires.may.1.0, c.requires.may.1.1.0))

pub decoded-requires-clause-may : goal.decoded-requires-clause-may
decoded-requires-clause-may g c κs within =
    (c.requires.may.0, (c.requires.may.1.0, (c.requires.may.1.1.0, may_as g.C.Codec.coding c.requires.may.0 c.requires.may.1.0 c.args.event (Decoded c.in-Decoded.decoding) c.in-Decoded.is c.requires.may.1.1.1)))

pub returns-in-Next-clause-answered : goal.returns-in-Next-clause-answered
returns-in-Next-clause-answered g c session events stands may =
    stepped_as g.C.Codec.coding session c.next_picture.new.self events c.args.event (Next c.in-Next.picture) _ c.in-Next.is
    (as_unless g.C.Codec.coding session of_next c.next_picture.new.self events (Starts (arc_value c.in-Next.picture)) _ _ c.next_picture.result _ c.of_next.ensures.answer refl refl (c.next_picture.ensures.answered session events stands))

pub returns-in-Take-clause-answered : goal.returns-in-Take-clause-answered
returns-in-Take-clause-answered g c session events stands may =
    stepped_as g.C.Codec.coding session c.take_job.new.self events c.args.event Take _ c.in-Take.is
    (as_answer g.C.Codec.coding session (λ a. TakeSaid a) c.take_job.new.self events TakesJob _ c.take_job.result _ refl refl (c.take_job.ensures.answered session events stands))

pub returns-in-Report-clause-answered : goal.returns-in-Report-clause-answered
returns-in-Report-clause-answered g c session events stands may =
    stepped_as g.C.Codec.coding session c.report.new.self events c.args.event (Report c.in-Report.report) _ c.in-Report.is
    (as_answer g.C.Codec.coding session (λ a. ReportSaid a) c.report.new.self events (Reports c.in-Report.report.work.id c.in-Report.report.gave) _ c.report.result _ refl refl (c.report.ensures.answered session events stands (may_as g.C.Codec.coding session events c.args.event (Report c.in-Report.report) c.in-Report.is may)))

pub returns-in-Choose-clause-answered : goal.returns-in-Choose-clause-answered
returns-in-Choose-clause-answered g c session events stands may =
    stepped_as g.C.Codec.coding session c.choose.new.self events c.args.event Choose _ c.in-Choose.is
    (as_unless g.C.Codec.coding session of_choose c.choose.new.self events Chooses _ _ c.choose.result _ c.of_choose.ensures.answer refl refl (c.choose.ensures.answered session events stands))

pub returns-in-Down-clause-answered : goal.returns-in-Down-clause-answered
returns-in-Down-clause-answered g c session events stands may =
    stepped_as g.C.Codec.coding session c.deliver.new.self events c.args.event (Down c.in-Down.which) _ c.in-Down.is
    (as_unless g.C.Codec.coding session of_deliver c.deliver.new.self events (Delivers c.in-Down.which) _ _ c.deliver.result _ c.of_deliver.ensures.answer refl refl (c.deliver.ensures.answered session events stands))

pub returns-in-Up-clause-answered : goal.returns-in-Up-clause-answered
returns-in-Up-clause-answered g c session events stands may =
    stepped_as g.C.Codec.coding session c.hear.new.self events c.args.event (Up c.in-Up.which) _ c.in-Up.is
    (as_answer g.C.Codec.coding session of_hear c.hear.new.self events (Hears c.in-Up.which) _ c.hear.result _ c.of_hear.ensures.answer refl (c.hear.ensures.answered session events stands))

pub returns-in-Ready-clause-answered : goal.returns-in-Ready-clause-answered
returns-in-Ready-clause-answered g c session events stands may =
    stepped_as g.C.Codec.coding session c.take_ready.new.self events c.args.event Ready _ c.in-Ready.is
    (as_answer g.C.Codec.coding session (λ a. ReadySaid a) c.take_ready.new.self events TakesReady _ c.take_ready.result _ refl refl (c.take_ready.ensures.answered session events stands))

pub returns-in-Decoded-clause-answered : goal.returns-in-Decoded-clause-answered
returns-in-Decoded-clause-answered g c session events stands may =
    stepped_as g.C.Codec.coding session c.decoded.new.self events c.args.event (Decoded c.in-Decoded.decoding) _ c.in-Decoded.is
    (as_answer g.C.Codec.coding session (λ a. DecodedSaid a) c.decoded.new.self events (Decodes c.in-Decoded.decoding.handed.number (did_decode c.in-Decoded.decoding.outcome)) _ c.decoded.result _ refl refl (c.decoded.ensures.answered session events stands (may_as g.C.Codec.coding session events c.args.event (Decoded c.in-Decoded.decoding) c.in-Decoded.is may)))

pub returns-in-Moment-clause-answered : goal.returns-in-Moment-clause-answered
returns-in-Moment-clause-answered g c session events stands may =
    stepped_as g.C.Codec.coding session c.pass.new.self events c.args.event (Moment c.in-Moment.moment) _ c.in-Moment.is
    (as_answer g.C.Codec.coding session (λ a. MomentSaid a) c.pass.new.self events (Passes c.in-Moment.moment) _ c.pass.result _ refl refl (c.pass.ensures.answered session events stands))

pub returns-in-Next-clause-memory : goal.returns-in-Next-clause-memory
returns-in-Next-clause-memory g c session events stands = λ h. takes_as g.C.Codec.coding session (after g.C.Codec.coding session events) c.args.event (Next c.in-Next.picture) c.in-Next.is (c.next_picture.ensures.memory session events stands (lacks_next g.C.Codec.coding session c.next_picture.result _ c.of_next.ensures.answer h))

pub returns-in-Choose-clause-memory : goal.returns-in-Choose-clause-memory
returns-in-Choose-clause-memory g c session events stands = λ h. takes_as g.C.Codec.coding session (after g.C.Codec.coding session events) c.args.event Choose c.in-Choose.is refl

pub returns-in-Down-clause-memory : goal.returns-in-Down-clause-memory
returns-in-Down-clause-memory g c session events stands = λ h. takes_as g.C.Codec.coding session (after g.C.Codec.coding session events) c.args.event (Down c.in-Down.which) c.in-Down.is (c.deliver.ensures.memory session events stands (lacks_deliver g.C.Codec.coding session c.deliver.result _ c.of_deliver.ensures.answer h))

pub returns-in-Up-clause-memory : goal.returns-in-Up-clause-memory
returns-in-Up-clause-memory g c session events stands = λ h. absurd (lacks_hear g.C.Codec.coding session c.hear.result _ c.of_hear.ensures.answer h)
