use Rattle.std.proofs.Common.{◌∙◌, sym, ap}
use Rattle.sal_frame.specs.Records.{Macroblock}
use Rattle.sal_frame.proofs.IntraLemmas.{in_b, in_whole}
use Rattle.sal_frame.proofs.intra.intra_luma.Goals as goal

pub returns-in-B : goal.returns-in-B
returns-in-B c = in_b c.args.factors.now c.args.block.now c.args.edge.now _ (sym (ap (λ (b : Macroblock). b.mode.y) c.block.view_is) ∙ c.in-B.is) c.subs_built.ensures

pub returns-in_default : goal.returns-in_default
returns-in_default c = in_whole c.args.factors.now c.args.block.now c.args.edge.now _ (λ e. c.in_default.not-B (ap (λ (b : Macroblock). b.mode.y) c.block.view_is ∙ e)) c.whole_luma.ensures
