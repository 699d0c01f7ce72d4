use Rattle.std.proofs.Common.{subst}
use Rattle.sal_base.specs.Samples.{IsBlockOf}
use Rattle.sal_intra.specs.Intra.{whole_sample, luma_edge}
use Rattle.sal_frame.specs.Records.{Macroblock}
use Rattle.sal_frame.proofs.intra.whole_luma.Goals as goal

pub returns : goal.returns
returns c =
    let P : Macroblock → Type 0 = λ b. IsBlockOf 16 256 c.predict_luma-samples.result (whole_sample b.mode.y (luma_edge c.args.edge.now)) in
    c.finish_luma.ensures (whole_sample c.args.block.now.mode.y (luma_edge c.args.edge.now)) (subst P c.block.view_is c.predict_luma-samples.ensures)
