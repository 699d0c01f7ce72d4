use Rattle.std.proofs.Common.{arith}
use Rattle.sal_modes.proofs.VectorLemmas.{bits_more, bits_all}
use Rattle.sal_modes.proofs.vectors.bits_at.Goals as goal

pub loop-place-preserved : goal.loop-place-preserved
loop-place-preserved c = record {
  small = omega (arith, c.loop-place.invariant.small, c.bit_value-value.ensures.small);
  reads = bits_more c.args.probabilities.now c.args.places.now c.loop-place.place-index c.loop-place.value c.bit_value-value.result _ _ _ _ c.loop-place-test.true c.bit-bit.ensures.reads c.bit_value-value.ensures.value c.loop-place.invariant.reads;
}

pub returns : goal.returns
returns c = record {
  reads = bits_all c.args.probabilities.now c.args.places.now c.loop-place.place-index c.loop-place.value c.loop-place.decoder _ c.loop-place-test.false c.loop-place.invariant.reads;
  small = omega (arith, c.loop-place.invariant.small, c.loop-place.auto.place-index-end);
}
