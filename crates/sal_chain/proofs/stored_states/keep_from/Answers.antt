use Rattle.std.proofs.Common.{rules, leb}
use Rattle.std.proofs.lemmas.Fn.{filter_same}
use Rattle.sal_chain.proofs.stored_states.keep_from.Goals as goal

pub returns-clause-kept : goal.returns-clause-kept
returns-clause-kept g c = filter_same _ (λ k. leb c.args.floor k.number) _ (λ x b f' h. search rules) _ _ c.retain.ensures.filtered
