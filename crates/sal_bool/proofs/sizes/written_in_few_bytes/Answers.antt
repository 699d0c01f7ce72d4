use Rattle.sal_bool.proofs.Bounds.{written_few}
use Rattle.sal_bool.proofs.sizes.written_in_few_bytes.Goals as goal

pub returns : goal.returns
returns c = written_few
