use Rattle.std.proofs.Common.{◌≡◌, ◌≤◌, length, ap, sym, subst, ◌∙◌, arith}
use Rattle.sal_wire.specs.Fields.{fields_of}
use Rattle.sal_reasm.specs.Stands.{SlotsStand}
use Rattle.sal_reasm.specs.Offer.{taken_after}
use Rattle.sal_reasm.proofs.Windows.{is_answer, keeps_after}
use Rattle.sal_reasm.proofs.slots.Slots.offer.Goals as goal

pub returns-clause-answer : goal.returns-clause-answer
returns-clause-answer c = λ taken keeps.
    let low : c.args.self.now.floor ≤ c.args.fragment.now.number = omega (arith, ap (λ w. w.floor) c.self.view_is, c.if-fragment-self.false) in
    let sixteen : length c.args.self.now.frames ≡ 16 = sym (ap (λ w. length w.frames) c.self.view_is) ∙ c.self.invariant in
    is_answer c.args.self.now taken (fields_of c.args.fragment.now) keeps c.requires low sixteen c.take.result c.take.ensures.answer

pub returns-clause-kept : goal.returns-clause-kept
returns-clause-kept c = λ taken keeps.
    let low : c.args.self.now.floor ≤ c.args.fragment.now.number = omega (arith, ap (λ w. w.floor) c.self.view_is, c.if-fragment-self.false) in
    let sixteen : length c.args.self.now.frames ≡ 16 = sym (ap (λ w. length w.frames) c.self.view_is) ∙ c.self.invariant in
    subst (λ w. SlotsStand w (taken_after c.take.result (fields_of c.args.fragment.now) taken)) (sym c.take.ensures.window)
    (keeps_after c.args.self.now taken (fields_of c.args.fragment.now) keeps c.requires low sixteen c.take.result (is_answer c.args.self.now taken (fields_of c.args.fragment.now) keeps c.requires low sixteen c.take.result c.take.ensures.answer))
