use Rattle.std.proofs.Common.{rules}
use Rattle.std.proofs.lemmas.Fn.{filter_same}
use Rattle.sal_receiver.specs.Pending.{is_left}
use Rattle.sal_receiver.proofs.pending_frames.keep_from.Goals as goal

pub returns-clause-kept : goal.returns-clause-kept
returns-clause-kept g c = filter_same _ (λ p. is_left c.args.floor p.number p.stage) _ (λ x b f' h. search rules) _ _ c.retain.ensures.filtered
