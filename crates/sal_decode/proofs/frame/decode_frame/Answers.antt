use Rattle.std.proofs.Common.{◌∙◌, take, ap}
use Rattle.std.proofs.lemmas.Result.{IfOk-weaker}
use Rattle.sal_probs.specs.Probabilities.{base, used}
use Rattle.sal_header.specs.declared.header.Kept.{Kept}
use Rattle.sal_base.specs.Pictures.{blocks_of}
use Rattle.sal_decode.specs.Syntax.{record_of}
use Rattle.sal_decode.proofs.Going.{record_header}
use Rattle.sal_decode.proofs.Finished.{record_width, record_height, same_modes, decoded_so}
use Rattle.sal_decode.proofs.frame.decode_frame.Goals as goal

pub returns-clause-decoded : goal.returns-clause-decoded
returns-clause-decoded c =
    let f = record_of c.args.state.now c.args.bytes.now (c.args.head.width, c.args.head.height) (take c.args.head.parts.count c.args.head.parts.at) (c.args.head.header, c.as_slice.result.now) in
    let old = c.args.state.now.kept.probs in
    let first = c.in_ok-probs.ensures ∙ ap (λ (k : Kept). base c.args.head.header.key k.probs) c.kept.ensures.kept in
    let read = same_modes c.args.head.header (used c.args.head.header.key old c.args.head.header.updates) c.begin_frame.new.self (blocks_of c.args.head.width) c.blocks_of-columns.result (blocks_of c.args.head.height) c.blocks_of-rows.result
    c.args.head.decoder c.read_modes.new.decoder c.in_ok-modes.modes.items c.as_slice.result.now (c.in_ok-saved.ensures.used c.args.head.header.key old first) c.blocks_of-columns.ensures c.blocks_of-rows.ensures c.as_slice.ensures.value c.in_ok-modes.ensures.reads in
    IfOk-weaker c.finish.result _ _ (λ d is. decoded_so c.args.state.now c.args.bytes.now f d (c.requires.read c.as_slice.result.now c.read_modes.new.decoder read) is)
    (c.finish.ensures.decoded f (record_header _ _ _ _ _) (record_width _ _ _ _ _) (record_height _ _ _ _ _) c.in_ok-planes.ensures.built (c.as_slice-2.ensures.value ∙ c.in_ok-planes.ensures.noted)
    (c.end_frame-left.ensures ∙ c.in_ok-saved.ensures.kept c.args.head.header.key old first))
