use Rattle.std.proofs.Common.{◌∙◌, ap, refl, [], ◌∷◌}
use Rattle.sal_bool.specs.Pairs.{Pairs}
use Rattle.sal_bool.specs.Written.{steps}
use Rattle.sal_bool.proofs.Putting.{both_put}
use Rattle.sal_modes.specs.Written.{bits_at_pairs}
use Rattle.sal_modes.proofs.PuttingModes.{long_high, long_low}
use Rattle.sal_modes.proofs.write_vectors.put_long.Goals as goal

pub returns-in_ok-put_bits_at-2 : goal.returns-in_ok-put_bits_at-2
returns-in_ok-put_bits_at-2 c =
    both_put (bits_at_pairs c.args.probabilities.now (0 ∷ 1 ∷ 2 ∷ 9 ∷ 8 ∷ 7 ∷ 6 ∷ 5 ∷ 4 ∷ []) c.args.size) (bits_at_pairs c.args.probabilities.now (3 ∷ []) c.args.size) c.args.encoder.now c.put_bits_at.new.encoder c.put_bits_at-then-size-ge16.new.encoder c.in_ok-put_bits_at.ensures c.in_ok-put_bits_at-2.ensures
    ∙ ap (λ (qs : Pairs). steps c.args.encoder.now qs) (long_high c.args.probabilities.now c.args.size c.if-size-ge16.true)

pub returns-else-size-ge16 : goal.returns-else-size-ge16
returns-else-size-ge16 c =
    both_put (bits_at_pairs c.args.probabilities.now (0 ∷ 1 ∷ 2 ∷ 9 ∷ 8 ∷ 7 ∷ 6 ∷ 5 ∷ 4 ∷ []) c.args.size) [] c.args.encoder.now c.put_bits_at.new.encoder c.put_bits_at.new.encoder c.in_ok-put_bits_at.ensures refl
    ∙ ap (λ (qs : Pairs). steps c.args.encoder.now qs) (long_low c.args.probabilities.now c.args.size c.if-size-ge16.false)
