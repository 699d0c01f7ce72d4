use Rattle.std.proofs.Common.{rules}
use Rattle.sal_frame.proofs.NextStates.{next}
use Rattle.sal_frame.proofs.next.next_state.Goals as goal

pub returns-clause-from : goal.returns-clause-from
returns-clause-from c = search rules

pub returns-clause-after : goal.returns-clause-after
returns-clause-after c f header width height planes map probs =
    next c.args.old.now c.args.header.now c.args.width c.args.height c.args.planes c.args.map c.args.probs f _ header width height planes map probs (returns-clause-from c)
