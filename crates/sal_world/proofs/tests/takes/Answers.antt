use Rattle.sal_world.proofs.tests.takes.Goals as goal

pub step-requires-clause-may : goal.step-requires-clause-may
step-requires-clause-may g c κs within = (c.requires.0, (c.requires.1.0, (c.requires.1.1, tt)))
