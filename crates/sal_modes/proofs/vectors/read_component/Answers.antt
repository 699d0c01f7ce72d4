use Rattle.sal_modes.proofs.VectorLemmas.{component_read, kept, kept_small}
use Rattle.sal_modes.proofs.vectors.read_component.Goals as goal

pub returns : goal.returns
returns c = record {
  reads = component_read c.args.probabilities.now _ _ _ _ _ _ _ _ c.bit-long.ensures.reads c.read_size-size.ensures.reads c.read_negative-negative.ensures.reads (kept _ _ c.signed.ensures.value c.signed.ensures.small);
  small = kept_small c.signed.result c.signed.ensures.small;
}
