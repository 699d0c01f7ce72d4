use Rattle.std.proofs.Common.{subst}
use Rattle.sal_base.specs.Samples.{IsBlockOf}
use Rattle.sal_intra.specs.Intra.{whole_sample, chroma_edge}
use Rattle.sal_frame.specs.Records.{Macroblock}
use Rattle.sal_frame.specs.Intra.{intra_chroma}
use Rattle.sal_frame.proofs.intra.intra_chroma.Goals as goal

pub returns : goal.returns
unfolding intra_chroma
returns c =
    let P : Macroblock → Type 0 = λ b. IsBlockOf 8 64 c.predict_chroma-samples.result (whole_sample b.mode.chroma (chroma_edge c.args.edge.now)) in
    c.finish_chroma.ensures (whole_sample c.args.block.now.mode.chroma (chroma_edge c.args.edge.now)) (subst P c.block.view_is c.predict_chroma-samples.ensures)
