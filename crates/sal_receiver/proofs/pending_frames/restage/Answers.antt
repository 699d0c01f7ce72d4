use Rattle.sal_receiver.proofs.FrameLemmas.{restage_found, none_restaged}
use Rattle.sal_receiver.proofs.pending_frames.restage.Goals as goal

pub returns-in-Some : goal.returns-in-Some
returns-in-Some g c = restage_found c.args.number c.in-Some.at c.args.stage c.index_mut.result.now _ _ _ c.in-Some.is c.index_of.ensures c.as_slice.ensures.value c.index_mut.ensures.value

pub returns-in_default : goal.returns-in_default
returns-in_default g c = none_restaged c.args.number c.args.stage _ _ _ c.in_default.is c.index_of.ensures c.as_slice.ensures.value
