use Rattle.sal_world.proofs.Kept.{is_kept, holds_everywhere}
use Rattle.sal_world.proofs.laws.each_event_keeps_the_invariant.Goals as goal

pub returns-clause-kept : goal.returns-clause-kept
returns-clause-kept g c = λ session. is_kept g.C.Codec.coding session c.keeps_the_law.ensures

pub returns-clause-everywhere : goal.returns-clause-everywhere
returns-clause-everywhere g c = λ session. holds_everywhere g.C.Codec.coding session c.keeps_the_law.ensures
