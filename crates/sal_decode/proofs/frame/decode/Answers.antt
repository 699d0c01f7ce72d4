use Rattle.std.proofs.Common.{take, true≢false}
use Rattle.sal_decode.proofs.Finished.{same_fault, same_refusal, no_refusal, ok_through}
use Rattle.sal_decode.proofs.frame.decode.Goals as goal

pub returns-in-Err-clause-fault : goal.returns-in-Err-clause-fault
returns-in-Err-clause-fault c f e = same_fault c.args.state.now c.args.bytes.now c.in-Err.fault f c.in-Err.ensures.fault e

pub returns-clause-decoded : goal.returns-clause-decoded
returns-clause-decoded c = ok_through c.decode_frame.result c.map_err.result _ _ c.map_err.ensures.cases c.map_err.ensures.variant c.decode_frame.ensures.decoded

pub returns-clause-picture : goal.returns-clause-picture
returns-clause-picture c = ok_through c.decode_frame.result c.map_err.result _ _ c.map_err.ensures.cases c.map_err.ensures.variant c.decode_frame.ensures.picture

pub returns-clause-state : goal.returns-clause-state
returns-clause-state c = ok_through c.decode_frame.result c.map_err.result _ _ c.map_err.ensures.cases c.map_err.ensures.variant c.decode_frame.ensures.state

pub returns-in-Err-clause-refused : goal.returns-in-Err-clause-refused
returns-in-Err-clause-refused c f said = same_refusal c.args.state.now c.args.bytes.now c.in-Err.fault f c.in-Err.ensures.fault said

pub returns-clause-refused : goal.returns-clause-refused
returns-clause-refused c f said =
    let h = c.in-Ok.head in
    absurd (true≢false (no_refusal c.args.state.now c.args.bytes.now h.header h.width h.height (take h.parts.count h.parts.at) h.decoder f c.in-Ok.ensures.read said))
