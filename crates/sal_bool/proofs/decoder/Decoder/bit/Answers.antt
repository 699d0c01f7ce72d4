use Rattle.sal_bool.proofs.Meaning.{run_one, exact_bit}
use Rattle.sal_bool.proofs.decoder.Decoder.bit.Goals as goal

pub returns-clause-reads : goal.returns-clause-reads
returns-clause-reads c = run_one c.args.probability _ _ _ c.ranges.probability.fits c.step.ensures.bit c.step.ensures.after

pub returns-clause-exact : goal.returns-clause-exact
returns-clause-exact c = exact_bit c.args.probability _ _ _ c.ranges.probability.fits c.step.ensures.bit c.step.ensures.after
