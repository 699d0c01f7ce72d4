use Rattle.std.proofs.Common.{false, refl}
use Rattle.sal_bool.specs.Syntax.{one}
use Rattle.sal_modes.proofs.InterLemmas.{unread}
use Rattle.sal_modes.proofs.inter.bit_when.Goals as goal

pub returns-else-there : goal.returns-else-there
returns-else-there c = record { reads = unread c.args.there (one c.args.probability) false _ c.if-there.false; unread = λ h. refl }
