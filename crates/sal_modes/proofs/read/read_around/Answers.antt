use Rattle.std.proofs.Common.{not, ap}
use Rattle.sal_modes.proofs.InterLemmas.{whole_read, whole_fits}
use Rattle.sal_modes.proofs.read.read_around.Goals as goal

pub returns : goal.returns
returns c = record {
  reads = whole_read c.args.header.now c.args.probs.now c.args.around.now _ _ _ c.read_modes-mode.result _ _ _ _ _
      c.read_segment-segment.ensures.reads c.bit_when-skip.ensures.reads c.bit_when-inter.ensures.reads c.read_modes-mode.ensures.reads;
  key = λ h. c.read_modes-mode.ensures.intra (c.bit_when-inter.ensures.unread (ap not h));
  modes = whole_fits c.read_modes-mode.result _ _ c.read_segment-segment.ensures.small c.read_modes-mode.ensures.modes;
}
