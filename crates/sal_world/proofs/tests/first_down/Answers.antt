use Rattle.std.proofs.Common.{[]}
use Rattle.sal_world.proofs.tests.first_down.Goals as goal

pub step-requires-clause-may : goal.step-requires-clause-may
step-requires-clause-may g c κs within = (_, ([], (c.in-Ok.ensures, tt)))
