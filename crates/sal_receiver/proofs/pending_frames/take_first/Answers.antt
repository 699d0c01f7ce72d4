use Rattle.std.proofs.Common.{ap, sym, ◌∙◌, set}
use Rattle.sal_receiver.proofs.FrameLemmas.{task_found, out_found, task_none, out_none, none_out}
use Rattle.sal_receiver.proofs.pending_frames.take_first.Goals as goal

pub returns-in-Some-clause-task : goal.returns-in-Some-clause-task
returns-in-Some-clause-task g c = c.hand_out.ensures.task ∙ task_found c.in-Some.at c.index_mut.result.now _ _ _ c.in-Some.is c.first_place.ensures c.as_slice.ensures.value c.index_mut.ensures.value

pub returns-in-Some-clause-out : goal.returns-in-Some-clause-out
returns-in-Some-clause-out g c =
    ap (λ y. set c.args.items.now.items c.in-Some.at y) c.hand_out.ensures.out
    ∙ out_found c.in-Some.at c.index_mut.result.now _ _ _ c.in-Some.is c.first_place.ensures c.as_slice.ensures.value c.index_mut.ensures.value

pub returns-in-None-clause-task : goal.returns-in-None-clause-task
returns-in-None-clause-task g c = task_none _ _ _ c.in-None.is c.first_place.ensures c.as_slice.ensures.value

pub returns-in-None-clause-out : goal.returns-in-None-clause-out
returns-in-None-clause-out g c = out_none _ _ _ c.in-None.is c.first_place.ensures c.as_slice.ensures.value

pub returns-in-Some-clause-alone : goal.returns-in-Some-clause-alone
returns-in-Some-clause-alone g c = λ none. returns-in-Some-clause-out g c ∙ none_out c.args.items.now.items (sym none ∙ returns-in-Some-clause-task g c)

pub returns-in-None-clause-alone : goal.returns-in-None-clause-alone
returns-in-None-clause-alone g c = λ none. sym (sym (returns-in-None-clause-out g c ∙ none_out c.args.items.now.items (returns-in-None-clause-task g c)))
