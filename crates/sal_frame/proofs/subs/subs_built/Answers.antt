use Rattle.std.proofs.Common.{◌∙◌, ℤ, List, Bool, ap}
use Rattle.sal_macroblock.specs.Macroblocks.{has_y2}
use Rattle.sal_transform.specs.Residues.{luma_residues_of}
use Rattle.sal_frame.specs.Records.{Macroblock}
use Rattle.sal_frame.specs.Residues.{luma_residues}
use Rattle.sal_frame.specs.Built.{subs_built}
use Rattle.sal_frame.proofs.subs.subs_built.Goals as goal

pub returns : goal.returns
returns c =
    let s = c.args.factors.now in
    let e = c.args.edge.now in
    let all = c.luma_residues-residues.ensures ∙ ap (λ (t : Bool). luma_residues_of s t c.block.inside.coefficients.now) c.has_y2.ensures in
    c.subs_from.ensures
    ∙ (ap (λ (rs : List (List ℤ)). subs_built e c.block.inside.mode.now rs 16) all
    ∙ ap (λ (b : Macroblock). subs_built e b.mode (luma_residues s b) 16) c.block.view_is)
