use Rattle.std.proofs.Common.{◌∙◌}
use Rattle.std.proofs.lemmas.Result.{IfOk-weaker}
use Rattle.sal_encode.proofs.FirstWritten.{first_written}
use Rattle.sal_encode.proofs.first.write_first.Goals as goal

pub returns : goal.returns
returns c =
    IfOk-weaker c.finish.result _ _
    (λ b e. e ∙ first_written c.args.state.now (c.args.width, c.args.height) c.args.plan.now c.args.probs.now c.as_slice.result.now c.blocks_of.result c.blocks_of-2.result c.new-encoder.result c.write_header.new.encoder c.write_modes.new.encoder
    c.new-encoder.ensures c.in_ok-write_header.ensures.pairs c.in_ok-write_modes.ensures c.requires.probs c.as_slice.ensures c.blocks_of.ensures c.blocks_of-2.ensures)
    c.finish.ensures.bytes
