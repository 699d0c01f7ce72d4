use Rattle.std.proofs.Common.{rules, leb}
use Rattle.std.proofs.lemmas.Fn.{filter_same}
use Rattle.sal_sender.proofs.prepared_frame.keep_from.Goals as goal

pub returns : goal.returns
returns c = filter_same _ (λ l. leb c.args.floor l.choice.number) _ (λ x b f' h. search rules) _ _ c.retain.ensures.filtered
