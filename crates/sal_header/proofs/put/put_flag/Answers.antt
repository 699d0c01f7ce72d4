use Rattle.sal_bool.proofs.Putting.{bit_some}
use Rattle.sal_header.proofs.put.put_flag.Goals as goal

pub returns-clause-some : goal.returns-clause-some
returns-clause-some c = bit_some 128 c.args.flag c.args.encoder.now _ c.put.result c.put.ensures
