use Rattle.std.proofs.Common.{◌≡◌, ◌+◌, ◌≤◌, ◌++◌, sym, ap, ◌∙◌, length, refl, arith, vec_len, vec_capacity}
use Rattle.std.proofs.lemmas.List.{append-nil}
use Rattle.sal_sender.specs.declared.answers.Chosen.TheVariants.{NoPicture, Waiting, Sent, Nothing, Memory}
use Rattle.sal_world.proofs.ChoiceSteps.{sent_short, chosen_happens, chosen_kept, on_ok}
use Rattle.sal_world.proofs.world.World.send.Goals as goal

pub move_to-requires : goal.move_to-requires
move_to-requires g c =
    let short : length c.in-Sent.burst ≤ 4096 = sent_short g.C.Codec.coding c.requires.world.0 _ c.args.self.now c.choose.new.self c.requires.world.1.0 c.in-Sent.choice c.in-Sent.burst c.choose.result c.self.view_is c.requires.world.1.1 c.choose.ensures.answered c.in-Sent.is in
    let room : vec_len c.reserve.new.self + 4096 ≤ vec_capacity c.reserve.new.self = on_ok c.reserve.result _ (sym c.is_err.ensures.value ∙ c.if-is_err.false) c.reserve.ensures.ok in
    omega arith

pub returns-in-Sent-clause-answered : goal.returns-in-Sent-clause-answered
returns-in-Sent-clause-answered g c session w is = chosen_happens g.C.Codec.coding session _ c.args.self.now c.choose.new.self c.move_to.new.sent.items w c.choose.result (Sent c.in-Sent.choice c.in-Sent.burst) _ c.self.view_is is c.choose.ensures.answered c.choose.ensures.session c.in-Sent.is (λ (q : Sent c.in-Sent.choice c.in-Sent.burst ≡ Memory). cc) refl (c.move_to.ensures ∙ ap (λ v. v ++ c.in-Sent.burst) c.reserve.ensures.items)

pub returns-in-NoPicture-clause-answered : goal.returns-in-NoPicture-clause-answered
returns-in-NoPicture-clause-answered g c session w is = chosen_happens g.C.Codec.coding session _ c.args.self.now c.choose.new.self c.reserve.new.self.items w c.choose.result NoPicture _ c.self.view_is is c.choose.ensures.answered c.choose.ensures.session c.in-NoPicture.is (λ (q : NoPicture ≡ Memory). cc) refl (c.reserve.ensures.items ∙ sym (append-nil c.self.inside.sent.items))

pub returns-in-Waiting-clause-answered : goal.returns-in-Waiting-clause-answered
returns-in-Waiting-clause-answered g c session w is = chosen_happens g.C.Codec.coding session _ c.args.self.now c.choose.new.self c.reserve.new.self.items w c.choose.result (Waiting c.in-Waiting.id) _ c.self.view_is is c.choose.ensures.answered c.choose.ensures.session c.in-Waiting.is (λ (q : Waiting c.in-Waiting.id ≡ Memory). cc) refl (c.reserve.ensures.items ∙ sym (append-nil c.self.inside.sent.items))

pub returns-in-Nothing-clause-answered : goal.returns-in-Nothing-clause-answered
returns-in-Nothing-clause-answered g c session w is = chosen_happens g.C.Codec.coding session _ c.args.self.now c.choose.new.self c.reserve.new.self.items w c.choose.result (Nothing c.in-Nothing.budget c.in-Nothing.sizes) _ c.self.view_is is c.choose.ensures.answered c.choose.ensures.session c.in-Nothing.is (λ (q : Nothing c.in-Nothing.budget c.in-Nothing.sizes ≡ Memory). cc) refl (c.reserve.ensures.items ∙ sym (append-nil c.self.inside.sent.items))

pub returns-in-NoPicture-clause-refused : goal.returns-in-NoPicture-clause-refused
returns-in-NoPicture-clause-refused g c = chosen_kept _ c.args.self.now c.choose.new.self c.reserve.new.self.items c.choose.result NoPicture c.self.view_is c.reserve.ensures.items c.choose.ensures.refused c.in-NoPicture.is

pub returns-in-Waiting-clause-refused : goal.returns-in-Waiting-clause-refused
returns-in-Waiting-clause-refused g c = chosen_kept _ c.args.self.now c.choose.new.self c.reserve.new.self.items c.choose.result (Waiting c.in-Waiting.id) c.self.view_is c.reserve.ensures.items c.choose.ensures.refused c.in-Waiting.is

pub returns-in-Memory-clause-refused : goal.returns-in-Memory-clause-refused
returns-in-Memory-clause-refused g c = λ h. chosen_kept _ c.args.self.now c.choose.new.self c.reserve.new.self.items c.choose.result Memory c.self.view_is c.reserve.ensures.items c.choose.ensures.refused c.in-Memory.is refl
