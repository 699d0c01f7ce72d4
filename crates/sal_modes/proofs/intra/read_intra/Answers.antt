use Rattle.std.proofs.Common.{refl}
use Rattle.sal_modes.proofs.IntraLemmas.{intra_read, intra_fits}
use Rattle.sal_modes.proofs.intra.read_intra.Goals as goal

pub returns : goal.returns
returns c = record { reads = intra_read c.args.key c.args.probs.now c.args.around.now _ _ _ _ _ _ _ _ _ c.read_y.ensures.reads c.whole_mode-y.ensures c.subs_of-sub.ensures.reads c.read_chroma.ensures.reads c.whole_mode-chroma.ensures; intra = refl; modes = intra_fits _ _ _ _ c.subs_of-sub.result c.whole_mode-y.ensures c.whole_mode-chroma.ensures c.read_chroma.ensures.small c.subs_of-sub.ensures.whole }
