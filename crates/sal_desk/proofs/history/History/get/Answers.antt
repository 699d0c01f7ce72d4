use Rattle.std.proofs.Common.{◌∙◌, ap, sym, slice_get}
use Rattle.std.specs.Option.{option_copied}
use Rattle.sal_desk.specs.Stored.{present}
use Rattle.sal_desk.proofs.Storing.{entry_found}
use Rattle.sal_desk.proofs.history.History.get.Goals as goal

pub returns-in-Some : goal.returns-in-Some
returns-in-Some g c =
    entry_found c.self.inside.log.before c.self.inside.log.stored.items c.args.index _
    (sym (ap option_copied c.in-Some.is) ∙ (c.stored_at.ensures ∙ ap (λ l. slice_get l c.args.index) c.as_slice.ensures.value))
    ∙ ap (λ l. slice_get (present l) c.args.index) c.self.view_is

pub returns-in-None : goal.returns-in-None
returns-in-None g c =
    entry_found c.self.inside.log.before c.self.inside.log.stored.items c.args.index _
    (sym (ap option_copied c.in-None.is) ∙ (c.stored_at.ensures ∙ ap (λ l. slice_get l c.args.index) c.as_slice.ensures.value))
    ∙ ap (λ l. slice_get (present l) c.args.index) c.self.view_is
