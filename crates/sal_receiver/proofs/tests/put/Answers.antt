use Rattle.std.proofs.Common.{◌∷◌}
use Rattle.sal_wire.specs.Parsing.{parsed}
use Rattle.sal_receiver.specs.Past.{Deliver}
use Rattle.sal_receiver.proofs.tests.put.Goals as goal

pub returns : goal.returns
returns g c = (Deliver (parsed c.args.bytes.now) 0 c.deliver.result ∷ c.requires.0, (c.deliver.ensures.answered c.requires.0 c.requires.1).1)
