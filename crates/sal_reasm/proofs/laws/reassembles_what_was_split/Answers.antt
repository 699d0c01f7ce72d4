use Rattle.sal_reasm.proofs.WholeLemmas.{whole}
use Rattle.sal_reasm.proofs.laws.reassembles_what_was_split.Goals as goal

pub returns : goal.returns
returns c = whole
