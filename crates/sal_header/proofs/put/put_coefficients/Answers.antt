use Rattle.std.proofs.Common.{◌∙◌, arith, ap, None, List, ℕ}
use Rattle.sal_bool.specs.Written.{steps}
use Rattle.sal_bool.specs.Pairs.{each_pairs, optional_pairs, literal_pairs}
use Rattle.sal_header.specs.Written.{coefficients_pairs}
use Rattle.sal_bool.proofs.Putting.{refused, left_start, places_put, places_some, places_all, some_same}
use Rattle.sal_header.proofs.put.put_coefficients.Goals as goal

pub loop-i-init : goal.loop-i-init
loop-i-init c = left_start _ _

pub loop-i-preserved : goal.loop-i-preserved
loop-i-preserved c =
    places_put (λ p u. optional_pairs p (literal_pairs 8) u) c.update_coefficients-probabilities.result.now c.args.updates.now 0 None c.loop-i.i c.loop-i.encoder c.put_optional_byte.new.encoder (omega (arith, c.update_coefficients-probabilities.ensures.length, c.loop-i-test.true)) (omega (arith, c.told-updates, c.loop-i-test.true)) c.in_ok-put_optional_byte.ensures.all c.loop-i.invariant

pub returns-in_err-put_optional_byte-clause-some : goal.returns-in_err-put_optional_byte-clause-some
unfolding coefficients_pairs
returns-in_err-put_optional_byte-clause-some c =
    refused _ (some_same _ _ c.args.encoder.now _ (ap (λ (zs : List ℕ). each_pairs (λ p u. optional_pairs p (literal_pairs 8) u) zs c.args.updates.now) c.update_coefficients-probabilities.ensures.digits)
    (places_some (λ p u. optional_pairs p (literal_pairs 8) u) c.update_coefficients-probabilities.result.now c.args.updates.now 0 None c.loop-i.i c.loop-i.encoder _ (omega (arith, c.update_coefficients-probabilities.ensures.length, c.loop-i-test.true)) (omega (arith, c.told-updates, c.loop-i-test.true)) c.in_err-put_optional_byte.ensures.some c.loop-i.invariant))

pub returns-clause-all : goal.returns-clause-all
unfolding coefficients_pairs
returns-clause-all c =
    places_all (λ p u. optional_pairs p (literal_pairs 8) u) c.update_coefficients-probabilities.result.now c.args.updates.now c.loop-i.i c.loop-i.encoder (omega (arith, c.update_coefficients-probabilities.ensures.length, c.loop-i-test.false)) c.loop-i.invariant
    ∙ ap (λ (zs : List ℕ). steps c.args.encoder.now (each_pairs (λ p u. optional_pairs p (literal_pairs 8) u) zs c.args.updates.now)) c.update_coefficients-probabilities.ensures.digits
