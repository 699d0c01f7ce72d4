use Rattle.sal_world.specs.World.{Decodes, after}
use Rattle.sal_world.specs.Answers.{did_decode}
use Rattle.sal_world.proofs.ReceiverSteps.{decoded_happens, decoded_kept}
use Rattle.sal_world.proofs.Stepped.{lifted, ready_own, honest_decoding}
use Rattle.sal_world.proofs.world.World.decoded.Goals as goal

pub returns-clause-answered : goal.returns-clause-answered
returns-clause-answered g c session events stands out =
    lifted g.C.Codec.coding session c.args.self.now _ events (Decodes c.args.decoding.handed.number (did_decode c.args.decoding.outcome)) _ _ stands tt
    (decoded_happens g.C.Codec.coding session _ c.args.self.now c.decoded.new.self (after g.C.Codec.coding session events) c.args.decoding.handed c.args.decoding.outcome c.decoded.result c.self.view_is stands.world (ready_own g.C.Codec.coding session events c.args.decoding.handed out) c.decoded.ensures.answered)

pub returns-clause-refused : goal.returns-clause-refused
returns-clause-refused g c = decoded_kept _ c.args.self.now c.decoded.new.self c.decoded.result c.self.view_is c.decoded.ensures.alone

pub returns-clause-honest : goal.returns-clause-honest
returns-clause-honest g c session events stands out names =
    let did = lifted g.C.Codec.coding session c.args.self.now _ events (Decodes c.args.decoding.handed.number (did_decode c.args.decoding.outcome)) _ _ stands tt
    (decoded_happens g.C.Codec.coding session _ c.args.self.now c.decoded.new.self (after g.C.Codec.coding session events) c.args.decoding.handed c.args.decoding.outcome c.decoded.result c.self.view_is stands.world (ready_own g.C.Codec.coding session events c.args.decoding.handed out) c.decoded.ensures.answered) in
    honest_decoding g.C.Codec.coding session events c.args.decoding.handed.number (did_decode c.args.decoding.outcome) c.decoded.result did.0 ((c.keeps_every_promise.ensures session did.1.session_is _ did.1.sizes).named names).nothing_refused

pub returns-clause-promises : goal.returns-clause-promises
returns-clause-promises g c session events stands = c.keeps_every_promise.ensures session stands.session_is events stands.sizes
