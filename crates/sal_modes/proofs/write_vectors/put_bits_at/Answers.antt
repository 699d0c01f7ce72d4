use Rattle.std.proofs.Common.{refl, arith}
use Rattle.sal_modes.specs.Written.{bits_at_pairs}
use Rattle.sal_modes.proofs.PuttingModes.{bits_more, bits_all}
use Rattle.sal_modes.proofs.write_vectors.put_bits_at.Goals as goal

pub loop-place-preserved : goal.loop-place-preserved
loop-place-preserved c =
    bits_more c.args.probabilities.now c.args.places.now c.args.number c.loop-place.place-index _ _ (bits_at_pairs c.args.probabilities.now c.args.places.now c.args.number) c.loop-place.encoder c.put.new.self c.args.encoder.now c.loop-place-test.true refl (omega arith) refl
    c.in_ok-put.ensures c.loop-place.invariant

pub returns : goal.returns
returns c =
    bits_all c.args.probabilities.now c.args.places.now c.args.number c.loop-place.place-index (bits_at_pairs c.args.probabilities.now c.args.places.now c.args.number) c.loop-place.encoder c.args.encoder.now c.loop-place-test.false c.loop-place.invariant
