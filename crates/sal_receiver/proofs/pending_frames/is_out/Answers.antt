use Rattle.std.proofs.Common.{ap, sym, ◌∙◌}
use Rattle.std.specs.Option.{option_copied}
use Rattle.sal_receiver.specs.Pending.{is_out_at}
use Rattle.sal_receiver.proofs.pending_frames.is_out.Goals as goal

pub returns-in-Some : goal.returns-in-Some
returns-in-Some g c = c.is_out.ensures ∙ ap (λ o. is_out_at o) (sym (ap option_copied c.in-Some.is) ∙ c.frame_of.ensures)

pub returns-in-None : goal.returns-in-None
returns-in-None g c = ap (λ o. is_out_at o) (sym (ap option_copied c.in-None.is) ∙ c.frame_of.ensures)
