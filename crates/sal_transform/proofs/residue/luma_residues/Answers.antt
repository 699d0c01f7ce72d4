use Rattle.std.proofs.Common.{◌≡◌, subst}
use Rattle.sal_transform.specs.Factors.{Factors}
use Rattle.sal_transform.specs.Residues.{luma_residues_of}
use Rattle.sal_transform.proofs.Passed.{luma_with_y2, luma_without_y2}
use Rattle.sal_transform.proofs.residue.luma_residues.Goals as goal

pub returns-then-has_y2 : goal.returns-then-has_y2
returns-then-has_y2 c =
    let P : Factors → Type 0 = λ s. c.luma_after.result ≡ luma_residues_of s c.args.has_y2 c.args.coefficients.now in
    subst P c.factors.view_is (luma_with_y2 _ c.args.has_y2 c.args.coefficients.now c.luma_after.result c.firsts-firsts.result c.if-has_y2.true c.firsts-firsts.ensures.value c.luma_after.ensures)

pub returns-else-has_y2 : goal.returns-else-has_y2
returns-else-has_y2 c =
    let P : Factors → Type 0 = λ s. c.luma_alone.result ≡ luma_residues_of s c.args.has_y2 c.args.coefficients.now in
    subst P c.factors.view_is (luma_without_y2 _ c.args.has_y2 c.args.coefficients.now c.luma_alone.result c.if-has_y2.false c.luma_alone.ensures)
