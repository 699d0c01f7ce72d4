use Rattle.std.proofs.Common.{◌≡◌, ◌≤◌, ◌%◌, None, length, get_or, ap, sym, ◌∙◌, arith}
use Rattle.std.proofs.lemmas.List.{get_or_default}
use Rattle.sal_wire.specs.Fields.{fields_of}
use Rattle.sal_reasm.specs.SlotTable.{if_number}
use Rattle.sal_reasm.specs.Step.{clash_with_slot}
use Rattle.sal_reasm.proofs.Windows.{clash_is}
use Rattle.sal_reasm.proofs.slots.Slots.clash.Goals as goal

pub returns : goal.returns
returns c = λ taken keeps.
    let low : c.args.self.now.floor ≤ c.args.fragment.now.number = omega (arith, ap (λ w. w.floor) c.self.view_is, c.if-self-fragment.false) in
    let sixteen : length c.args.self.now.frames ≡ 16 = sym (ap (λ w. length w.frames) c.self.view_is) ∙ c.self.invariant in
    let there : c.index.result.now ≡ get_or c.args.self.now.frames (c.args.fragment.now.number % 16) None =
    c.index.ensures
    ∙ (get_or_default c.self.inside.frames.items (c.args.fragment.now.number % 16) c.index.result.now None (omega (arith, c.self.invariant))
    ∙ ap (λ w. get_or w.frames (c.args.fragment.now.number % 16) None) c.self.view_is) in
    c.clash_at.ensures
    ∙ (ap (λ o. clash_with_slot (if_number c.args.fragment.now.number o) (fields_of c.args.fragment.now)) there
    ∙ clash_is c.args.self.now taken (fields_of c.args.fragment.now) keeps c.requires low sixteen)
