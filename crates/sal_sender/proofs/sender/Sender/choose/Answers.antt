use Rattle.std.proofs.Common.{arith, ◌≡◌, refl, inr, ap, sym, subst, max, ◌∙◌}
use Rattle.std.specs.Option.{option_copied}
use Rattle.sal_sender.specs.Machine.{AreCandidates}
use Rattle.sal_sender.proofs.Choosings.{no_picture, waits, nothing, found_seat}
use Rattle.sal_sender.proofs.ChosenLacks.{lacks}
use Rattle.sal_sender.proofs.ChosenSent.{sent_chosen}
use Rattle.sal_sender.proofs.FoundFits.{found_fits}
use Rattle.sal_sender.proofs.Promised.{promised}
use Rattle.sal_sender.proofs.sender.Sender.choose.Goals as goal

pub returns-in_default-clause-answered : goal.returns-in_default-clause-answered
returns-in_default-clause-answered g c past s = no_picture g.C.Codec.coding c.args.self.now past c.args.moment s (sym (ap (λ v. v.open_picture) c.self.view_is) ∙ c.in_default.is)

pub returns-in-Some-missing-clause-answered : goal.returns-in-Some-missing-clause-answered
returns-in-Some-missing-clause-answered g c past s = waits g.C.Codec.coding c.args.self.now past c.args.moment c.in-Some-missing.id c.in-Some.picture c.is_lost.result c.is_lost-is_lost.result s (sym (ap (λ v. v.open_picture) c.self.view_is) ∙ c.in-Some.is) c.is_lost.ensures c.is_lost-is_lost.ensures c.in-Some-missing.ensures

pub returns-in_default-found-clause-answered : goal.returns-in_default-found-clause-answered
returns-in_default-found-clause-answered g c past s = nothing g.C.Codec.coding c.args.self.now c.close.new.self past c.args.moment c.max-at.result c.budget-budget.result c.in-Some.picture c.is_lost.result c.is_lost-is_lost.result c.sizes-sizes.result s (sym (ap (λ v. v.open_picture) c.self.view_is) ∙ c.in-Some.is) c.is_lost.ensures c.is_lost-is_lost.ensures c.in_default-missing.ensures (c.max-at.ensures ∙ ap (λ v. max v.acks.moment c.args.moment) c.self.view_is) c.budget-budget.ensures (sym c.found.ensures ∙ ap option_copied c.in_default-found.is) c.sizes-sizes.ensures c.close.ensures

pub prepare-requires-clause-candidate : goal.prepare-requires-clause-candidate
prepare-requires-clause-candidate g c κs within = found_seat g.C.Codec.coding c.is_lost-is_lost.result c.budget-budget.result c.args.self.now.floor c.args.self.now.tip c.args.self.now.session.head c.args.self.now.open_picture c.in-Some.picture c.in-Some-found.candidate.now (subst (λ v. AreCandidates v.floor v.tip v.session.head v.open_picture) c.self.view_is c.self.invariant.0.seated) (sym (ap (λ v. v.open_picture) c.self.view_is) ∙ c.in-Some.is) (sym c.found.ensures ∙ ap option_copied c.in-Some-found.is)

pub returns-in-Ok-clause-answered : goal.returns-in-Ok-clause-answered
returns-in-Ok-clause-answered g c past s = sent_chosen g.C.Codec.coding c.args.self.now c.send.new.self past c.args.moment c.max-at.result c.budget-budget.result c.in-Some.picture c.is_lost.result c.is_lost-is_lost.result c.in-Some-found.candidate.now c.in-Ok.prepared c.send.result s (subst (λ v. v.store.floor ≡ v.floor) c.self.view_is c.self.invariant.0.store) (sym (ap (λ v. v.open_picture) c.self.view_is) ∙ c.in-Some.is) c.is_lost.ensures c.is_lost-is_lost.ensures c.in_default-missing.ensures (c.max-at.ensures ∙ ap (λ v. max v.acks.moment c.args.moment) c.self.view_is) c.budget-budget.ensures (sym c.found.ensures ∙ ap option_copied c.in-Some-found.is) c.in-Ok.ensures c.send.ensures.sent c.send.ensures.after

pub returns-in-Err-clause-memory : goal.returns-in-Err-clause-memory
returns-in-Err-clause-memory g c past s = λ h. lacks g.C.Codec.coding c.args.self.now past c.args.moment c.max-at.result c.budget-budget.result c.in-Some.picture c.is_lost.result c.is_lost-is_lost.result c.in-Some-found.candidate.now s (sym (ap (λ v. v.open_picture) c.self.view_is) ∙ c.in-Some.is) c.is_lost.ensures c.is_lost-is_lost.ensures c.in_default-missing.ensures (c.max-at.ensures ∙ ap (λ v. max v.acks.moment c.args.moment) c.self.view_is) c.budget-budget.ensures (sym c.found.ensures ∙ ap option_copied c.in-Some-found.is)

pub returns-in_default-clause-promises : goal.returns-in_default-clause-promises
returns-in_default-clause-promises g c past s = promised g.C.Codec.coding _ _ past s.legal (returns-in_default-clause-answered g c past s).0

pub returns-in-Some-missing-clause-promises : goal.returns-in-Some-missing-clause-promises
returns-in-Some-missing-clause-promises g c past s = promised g.C.Codec.coding _ _ past s.legal (returns-in-Some-missing-clause-answered g c past s).0

pub returns-in_default-found-clause-promises : goal.returns-in_default-found-clause-promises
returns-in_default-found-clause-promises g c past s = promised g.C.Codec.coding _ _ past s.legal (returns-in_default-found-clause-answered g c past s).0

pub returns-in-Ok-clause-promises : goal.returns-in-Ok-clause-promises
returns-in-Ok-clause-promises g c past s = promised g.C.Codec.coding _ _ past s.legal (returns-in-Ok-clause-answered g c past s).0

pub returns-in-Err-clause-promises : goal.returns-in-Err-clause-promises
returns-in-Err-clause-promises g c past s = promised g.C.Codec.coding _ _ past s.legal (inr refl)

pub prepare-requires-clause-fits : goal.prepare-requires-clause-fits
prepare-requires-clause-fits g c κs within = found_fits g.C.Codec.coding c.is_lost-is_lost.result c.budget-budget.result 4096 c.in-Some.picture c.in-Some-found.candidate.now (omega (arith, c.budget-budget.ensures)) (sym c.found.ensures ∙ ap option_copied c.in-Some-found.is)
