use Rattle.std.proofs.Common.{◌≡◌, ◌∷◌, [], ◌++◌, sym, ap, ◌∙◌, length, refl, Some}
use Rattle.std.specs.Option.{option_copied}
use Rattle.sal_receiver.specs.declared.answers.Delivered.TheVariants.{Ended, Refused, Memory}
use Rattle.sal_world.specs.World.{at_number}
use Rattle.sal_world.proofs.ReceiverSteps.{down_there, down_unsent, down_taken, down_quiet, down_kept}
use Rattle.sal_world.proofs.world.World.receive.Goals as goal

pub returns-in_default-clause-answered : goal.returns-in_default-clause-answered
returns-in_default-clause-answered g c session w is = down_unsent g.C.Codec.coding session _ c.args.self.now w c.args.which c.from.result c.from-in_default.result _ c.self.view_is is (ap (λ s. at_number s c.from.result) (sym c.as_slice.ensures.value) ∙ (sym c.at_number.ensures ∙ ap option_copied c.in_default.is)) c.from.ensures c.from-in_default.ensures (ap (λ v. length v) c.as_slice-in_default.ensures.value)

pub returns-in-Taken-clause-answered : goal.returns-in-Taken-clause-answered
returns-in-Taken-clause-answered g c session w is = down_taken g.C.Codec.coding session _ c.args.self.now c.deliver.new.self c.keep.new.acks.items w c.args.which c.from.result c.as_slice-2.result.now c.write.result c.in-Taken.ack c.deliver.result c.self.view_is is (ap (λ s. at_number s c.from.result) (sym c.as_slice.ensures.value) ∙ (sym c.at_number.ensures ∙ (ap option_copied c.in-Some.is ∙ ap Some (sym c.as_slice-2.ensures)))) c.from.ensures c.deliver.ensures.answered c.in-Taken.is (c.keep.ensures ∙ ap (λ v. v ++ c.write.result ∷ []) c.reserve.ensures.items) c.write.ensures

pub returns-in-Ended-clause-answered : goal.returns-in-Ended-clause-answered
returns-in-Ended-clause-answered g c session w is = down_quiet g.C.Codec.coding session _ c.args.self.now c.deliver.new.self c.reserve.new.self.items w c.args.which c.from.result c.as_slice-2.result.now c.deliver.result (Ended c.in-Ended.last) c.self.view_is is (ap (λ s. at_number s c.from.result) (sym c.as_slice.ensures.value) ∙ (sym c.at_number.ensures ∙ (ap option_copied c.in-Some.is ∙ ap Some (sym c.as_slice-2.ensures)))) c.from.ensures c.deliver.ensures.answered c.in-Ended.is (λ (q : Ended c.in-Ended.last ≡ Memory). cc) refl c.reserve.ensures.items

pub returns-in-Refused-clause-answered : goal.returns-in-Refused-clause-answered
returns-in-Refused-clause-answered g c session w is = down_quiet g.C.Codec.coding session _ c.args.self.now c.deliver.new.self c.reserve.new.self.items w c.args.which c.from.result c.as_slice-2.result.now c.deliver.result (Refused c.in-Refused.cause) c.self.view_is is (ap (λ s. at_number s c.from.result) (sym c.as_slice.ensures.value) ∙ (sym c.at_number.ensures ∙ (ap option_copied c.in-Some.is ∙ ap Some (sym c.as_slice-2.ensures)))) c.from.ensures c.deliver.ensures.answered c.in-Refused.is (λ (q : Refused c.in-Refused.cause ≡ Memory). cc) refl c.reserve.ensures.items

pub returns-in-Refused-clause-refused : goal.returns-in-Refused-clause-refused
returns-in-Refused-clause-refused g c = λ h. down_kept _ c.args.self.now c.deliver.new.self c.reserve.new.self.items c.deliver.result (Refused c.in-Refused.cause) c.self.view_is c.reserve.ensures.items c.deliver.ensures.alone c.in-Refused.is tt

pub returns-in-Memory-clause-refused : goal.returns-in-Memory-clause-refused
returns-in-Memory-clause-refused g c = λ h. down_kept _ c.args.self.now c.deliver.new.self c.reserve.new.self.items c.deliver.result Memory c.self.view_is c.reserve.ensures.items c.deliver.ensures.alone c.in-Memory.is tt

pub returns-in_default-new-clause-memory : goal.returns-in_default-new-clause-memory
returns-in_default-new-clause-memory g c session w is = λ h. down_there g.C.Codec.coding session _ c.args.self.now w c.args.which c.from.result _ c.self.view_is is (ap (λ s. at_number s c.from.result) (sym c.as_slice.ensures.value) ∙ (sym c.at_number.ensures ∙ ap option_copied c.in-Some.is)) c.from.ensures

pub returns-then-is_err-clause-memory : goal.returns-then-is_err-clause-memory
returns-then-is_err-clause-memory g c session w is = λ h. down_there g.C.Codec.coding session _ c.args.self.now w c.args.which c.from.result _ c.self.view_is is (ap (λ s. at_number s c.from.result) (sym c.as_slice.ensures.value) ∙ (sym c.at_number.ensures ∙ ap option_copied c.in-Some.is)) c.from.ensures

pub returns-in-Memory-clause-memory : goal.returns-in-Memory-clause-memory
returns-in-Memory-clause-memory g c session w is = λ h. down_there g.C.Codec.coding session _ c.args.self.now w c.args.which c.from.result _ c.self.view_is is (ap (λ s. at_number s c.from.result) (sym c.as_slice.ensures.value) ∙ (sym c.at_number.ensures ∙ ap option_copied c.in-Some.is)) c.from.ensures
