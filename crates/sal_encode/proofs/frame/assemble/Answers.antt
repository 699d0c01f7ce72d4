use Rattle.std.proofs.Common.{◌∙◌, sym, ap, length}
use Rattle.sal_encode.proofs.AssembledLaws.{decoded_is, few_bytes}
use Rattle.sal_encode.proofs.FrameMade.{oversize_made, frame_made}
use Rattle.sal_encode.proofs.frame.assemble.Goals as goal

pub returns-then-length-ge524288-clause-assembled : goal.returns-then-length-ge524288-clause-assembled
returns-then-length-ge524288-clause-assembled c =
    oversize_made c.args.state.now (c.args.width, c.args.height) c.args.plan.now c.in_ok-first.first c.length_of-length.result c.in_ok-first.ensures c.length_of-length.ensures c.if-length-ge524288.true

pub returns-clause-assembled : goal.returns-clause-assembled
returns-clause-assembled c =
    frame_made c.args.state.now (c.args.width, c.args.height) c.args.plan.now c.as_slice.result.now c.as_slice-2.result.now c.in_ok-bytes.bytes c.length_of-length.result c.in_ok-tokens.decoded
    (c.as_slice.ensures ∙ c.in_ok-first.ensures) (c.length_of-length.ensures ∙ ap length (sym c.as_slice.ensures)) c.if-length-ge524288.false (c.as_slice-2.ensures ∙ c.in_ok-tokens.ensures.tokens) c.in_ok-bytes.ensures c.in_ok-tokens.ensures.decoded

pub returns-clause-decoded : goal.returns-clause-decoded
returns-clause-decoded c bytes target recon e = decoded_is c.args.state.now (c.args.width, c.args.height) c.args.plan.now c.requires.plan bytes target recon (sym (returns-clause-assembled c) ∙ e)

pub returns-clause-few : goal.returns-clause-few
returns-clause-few c bytes target recon e = few_bytes c.args.state.now (c.args.width, c.args.height) c.args.plan.now c.requires.plan bytes target recon (sym (returns-clause-assembled c) ∙ e)
