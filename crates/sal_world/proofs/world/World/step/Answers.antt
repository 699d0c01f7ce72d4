use Rattle.std.proofs.Common.{◌∷◌}
use Rattle.sal_world.specs.Answers.{event_of}
use Rattle.sal_world.proofs.Kept.{all_interleavings, holds_everywhere}
use Rattle.sal_world.proofs.Stepped.{honest}
use Rattle.sal_world.proofs.world.World.step.Goals as goal

pub returns-clause-honest : goal.returns-clause-honest
returns-clause-honest g c session events stands may names =
    honest g.C.Codec.coding session c.happen.new.self events c.args.event c.happen.result (c.happen.ensures.answered session events stands may)
    (λ now. ((all_interleavings g.C.Codec.coding session c.keeps_the_law.ensures now.session_is (event_of c.args.event ∷ events) now.sizes).named names).nothing_refused)

pub returns-clause-promises : goal.returns-clause-promises
returns-clause-promises g c session events stands = all_interleavings g.C.Codec.coding session c.keeps_the_law.ensures stands.session_is events stands.sizes

pub returns-clause-kept : goal.returns-clause-kept
returns-clause-kept g c session events stands names = holds_everywhere g.C.Codec.coding session c.keeps_the_law.ensures stands.session_is events stands.sizes names
