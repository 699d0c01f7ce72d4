use Rattle.std.proofs.Common.{sym, ap, ◌∙◌, length, refl, Some}
use Rattle.std.specs.Option.{option_copied}
use Rattle.sal_world.specs.World.{at_number}
use Rattle.sal_world.proofs.SenderSteps.{ack_happens, ack_unsent, ack_kept}
use Rattle.sal_world.proofs.world.World.take_ack.Goals as goal

pub returns-in-Some-clause-answered : goal.returns-in-Some-clause-answered
returns-in-Some-clause-answered g c session w is = ack_happens g.C.Codec.coding session _ c.args.self.now c.heard.new.self w c.args.which c.args.which c.as_slice-in-Some.result.now c.heard.result c.self.view_is is (ap (λ s. at_number s c.args.which) (sym c.as_slice.ensures.value) ∙ (sym c.at_number.ensures ∙ (ap option_copied c.in-Some.is ∙ ap Some (sym c.as_slice-in-Some.ensures)))) refl c.heard.ensures.answered c.heard.ensures.session

pub returns-in-Some-clause-refused : goal.returns-in-Some-clause-refused
returns-in-Some-clause-refused g c = ack_kept _ c.args.self.now c.heard.new.self c.heard.result c.self.view_is c.heard.ensures.refused

pub returns-in-None-clause-answered : goal.returns-in-None-clause-answered
returns-in-None-clause-answered g c session w is = ack_unsent g.C.Codec.coding session _ c.args.self.now w c.args.which c.args.which _ c.self.view_is is (ap (λ s. at_number s c.args.which) (sym c.as_slice.ensures.value) ∙ (sym c.at_number.ensures ∙ ap option_copied c.in-None.is)) refl (ap (λ v. length v) c.as_slice-in-None.ensures.value)
