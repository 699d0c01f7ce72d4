use Rattle.std.proofs.Common.{arith, ◌∙◌, ap, sym, ℕ, List}
use Rattle.std.proofs.lemmas.List.{length-set, take_all}
use Rattle.sal_bool.specs.Syntax.{run, each, optional}
use Rattle.sal_header.specs.Headers.{vector_value, vector_updates}
use Rattle.sal_header.proofs.Values.{read_nothing, read_put, read_to_end}
use Rattle.sal_header.proofs.fields.vector_updates.Goals as goal

pub loop-i-init : goal.loop-i-init
loop-i-init c = record { long = c.told-updates; reads = read_nothing (λ p. optional p (vector_value)) c.update_vectors-probabilities.result.now c.args.decoder.now }

pub loop-i-preserved : goal.loop-i-preserved
loop-i-preserved c = record {
  long = length-set c.loop-i.updates c.loop-i.i c.optional_vector.result ∙ c.loop-i.invariant.long;
  reads = read_put (λ p. optional p (vector_value)) c.update_vectors-probabilities.result.now 0 c.loop-i.i _ _ _ _ _ (omega (arith, c.update_vectors-probabilities.ensures.length, c.loop-i-test.true)) (omega (arith, c.loop-i.invariant.long, c.loop-i-test.true)) c.optional_vector.ensures.reads c.loop-i.invariant.reads;
}

pub returns : goal.returns
unfolding vector_updates
returns c =
    let ps = c.update_vectors-probabilities.result.now in
    let all = read_to_end (λ p. optional p (vector_value)) ps c.loop-i.i _ _ _ c.loop-i.updates (omega (arith, c.update_vectors-probabilities.ensures.length, c.loop-i-test.false)) (take_all c.loop-i.i c.loop-i.updates (omega (arith, c.loop-i.invariant.long, c.loop-i-test.false))) c.loop-i.invariant.reads in
    record { reads = ap (λ (zs : List ℕ). run (each (λ p. optional p (vector_value)) zs) c.args.decoder.now) (sym c.update_vectors-probabilities.ensures.digits) ∙ all }
