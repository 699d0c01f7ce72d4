use Rattle.std.proofs.Common.{sym, ◌∙◌}
use Rattle.std.specs.Arc.{arc_value}
use Rattle.std.specs.Option.{option_map}
use Rattle.sal_receiver.proofs.ShareAt.{found_among, none_among, share_ok}
use Rattle.sal_receiver.proofs.entering.share_of.Goals as goal

pub returns-in-Some : goal.returns-in-Some
returns-in-Some g c =
    share_ok c.share_at.result (λ o. option_map arc_value o) _ _ c.share_at.ensures
    (found_among c.args.floor c.in-Some.number c.args.name.0 (arc_value c.args.initial.now) c.args.store.now c.as_slice.result.now c.first_label.result (sym c.eq.ensures ∙ c.if-eq.false) c.held-labels.ensures.table (c.as_slice.ensures.value ∙ c.held-labels.ensures.value) c.in-Some.is c.first_label.ensures)

pub returns-in-None : goal.returns-in-None
returns-in-None g c =
    none_among c.args.floor c.args.name.0 (arc_value c.args.initial.now) c.args.store.now c.as_slice.result.now c.first_label.result (sym c.eq.ensures ∙ c.if-eq.false) (c.as_slice.ensures.value ∙ c.held-labels.ensures.value) c.in-None.is c.first_label.ensures
