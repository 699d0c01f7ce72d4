use Rattle.std.proofs.Common.{◌∙◌, sym}
use Rattle.sal_bool.specs.Syntax.{number}
use Rattle.sal_bool.proofs.Meaning.{number_step, number_end, run_done, bit_small, exact_of, one_more}
use Rattle.sal_bool.proofs.decoder.Decoder.number.Goals as goal

pub loop-probability-preserved : goal.loop-probability-preserved
loop-probability-preserved c = record {
  small = one_more _ _ _ c.loop-probability.invariant.small (bit_small _);
  reads = number_step _ _ _ _ _ _ _ c.loop-probability-test.true c.bit.ensures.reads c.loop-probability.invariant.reads;
}

pub returns-clause-reads : goal.returns-clause-reads
returns-clause-reads c = sym (number_end _ _ _ _ _ c.loop-probability-test.false c.loop-probability.invariant.reads) ∙ run_done _ _

pub returns-clause-exact : goal.returns-clause-exact
returns-clause-exact c = exact_of (number c.args.probabilities.now 0) _ _ _ (returns-clause-reads c)
