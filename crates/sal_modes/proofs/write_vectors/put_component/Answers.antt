use Rattle.std.proofs.Common.{◌≡◌, ◌∙◌, ap, ℕ, ℤ, pos, Bool, [], ◌∷◌, not, ◌==◌, nat_lt, slice_index, unsigned_abs, to_z, of_z, w16, arith}
use Rattle.std.proofs.lemmas.Int.{ints}
use Rattle.std.specs.Int.Signed.{lt_z}
use Rattle.sal_bool.specs.Pairs.{pair, pairs_when, is_negative}
use Rattle.sal_bool.specs.Written.{steps}
use Rattle.sal_bool.proofs.Putting.{put_then, put_done, below_zero}
use Rattle.sal_modes.specs.Written.{size_pairs, component_pairs}
use Rattle.sal_modes.proofs.PuttingModes.{one_put, not_below}
use Rattle.sal_modes.proofs.write_vectors.put_component.Goals as goal

pub returns : goal.returns
unfolding component_pairs
returns c =
    let ps = c.args.probabilities.now in
    let z : ℤ = c.args.component in
    let same : to_z w16 (of_z w16 z) ≡ z = omega (arith, ints) in
    let size : c.unsigned_abs-size.result ≡ unsigned_abs z = c.unsigned_abs-size.ensures.value ∙ ap (λ (v : ℤ). unsigned_abs v) same in
    let all = put_then (pair (slice_index ps 0) (not (nat_lt (unsigned_abs z) 8)) ∷ []) _ c.args.encoder.now c.put.new.self _ (one_put _ _ (not (nat_lt (unsigned_abs z) 8)) c.args.encoder.now c.put.new.self (omega arith) (not_below c.unsigned_abs-size.result ∙ ap (λ (n : ℕ). not (nat_lt n 8)) size) c.in_ok-put.ensures)
    (put_then (size_pairs ps (unsigned_abs z)) _ c.put.new.self c.put_size.new.encoder _ (c.in_ok-put_size.ensures ∙ ap (λ (n : ℕ). steps c.put.new.self (size_pairs ps n)) size)
    (put_then (pairs_when (not (unsigned_abs z == 0)) (pair (slice_index ps 1) (is_negative z) ∷ [])) _ c.put_size.new.encoder c.put_bit_when.new.encoder _
    (c.in_ok-put_bit_when.ensures ∙ (ap (λ (n : ℕ). steps c.put_size.new.encoder (pairs_when (not (n == 0)) (pair (slice_index ps 1) (lt_z (to_z w16 (of_z w16 z)) (pos 0)) ∷ []))) size
    ∙ ap (λ (b : Bool). steps c.put_size.new.encoder (pairs_when (not (unsigned_abs z == 0)) (pair (slice_index ps 1) b ∷ []))) (ap (λ (v : ℤ). lt_z v (pos 0)) same ∙ below_zero z))) (put_done c.put_bit_when.new.encoder))) in
    all.puts
