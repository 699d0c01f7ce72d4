use Rattle.sal_receiver.proofs.FrameLemmas.{removed, none_removed}
use Rattle.sal_receiver.proofs.pending_frames.remove.Goals as goal

pub returns-in-Some : goal.returns-in-Some
returns-in-Some g c = removed c.args.number c.in-Some.at _ _ _ _ c.in-Some.is c.index_of.ensures c.as_slice.ensures.value c.remove.ensures.items

pub returns-in_default : goal.returns-in_default
returns-in_default g c = none_removed c.args.number _ _ _ c.in_default.is c.index_of.ensures c.as_slice.ensures.value
