use Rattle.std.proofs.Common.{ap, replicate}
use Rattle.sal_base.specs.declared.kinds.SubMode.{SubMode}
use Rattle.sal_modes.proofs.IntraLemmas.{subs_implied}
use Rattle.sal_modes.proofs.intra.subs_of.Goals as goal

pub returns-in_default : goal.returns-in_default
returns-in_default c = record { reads = subs_implied c.args.key c.args.around.now c.args.y c.implied.result c.args.decoder.now c.in_default.not-B c.implied.ensures; whole = λ e. ap (λ (m : SubMode). replicate 16 m) c.implied.ensures }
