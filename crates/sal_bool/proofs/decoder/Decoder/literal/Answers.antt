use Rattle.std.proofs.Common.{◌≡◌, ◌+◌, ◌-◌, ◌∙◌, ap, arith, sym, replicate}
use Rattle.sal_bool.proofs.Meaning.{literal_step, literal_end, run_done, bit_small, exact_of, one_more}
use Rattle.sal_bool.specs.Syntax.{run, number, literal}
use Rattle.sal_bool.proofs.decoder.Decoder.literal.Goals as goal

pub loop-init : goal.loop-init
unfolding literal
loop-init c = let e : c.args.n - 0 ≡ c.args.n = omega arith in record { small = omega arith; reads = ap (λ k. run (number (replicate k 128) 0) c.args.self.now) e }

pub loop-preserved : goal.loop-preserved
loop-preserved c = record {
  small = one_more _ _ _ c.loop.invariant.small (bit_small _);
  reads = literal_step (c.args.n - c.loop.counter) (c.args.n - (c.loop.counter + 1)) c.loop.value _ _ _ _ (omega arith) c.bit.ensures.reads c.loop.invariant.reads;
}

pub returns-clause-reads : goal.returns-clause-reads
returns-clause-reads c = sym (literal_end (c.args.n - c.loop.counter) _ _ _ (omega arith) c.loop.invariant.reads) ∙ run_done _ _

pub returns-clause-exact : goal.returns-clause-exact
returns-clause-exact c = exact_of (literal c.args.n) _ _ _ (returns-clause-reads c)
