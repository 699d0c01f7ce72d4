use Rattle.std.proofs.Common.{◌≡◌, [], arith, subst}
use Rattle.sal_transform.specs.Factors.{Factors}
use Rattle.sal_transform.specs.Residues.{chroma_residues_of}
use Rattle.sal_macroblock.proofs.Places.{listed_is}
use Rattle.sal_transform.proofs.Passed.{chroma_is}
use Rattle.sal_transform.proofs.residue.chroma_residues.Goals as goal

pub returns : goal.returns
returns c =
    let P : Factors → Type 0 = λ s. c.loop-k.residues ≡ chroma_residues_of s c.args.coefficients.now c.args.first in
    let below = c.loop-k-test.false in
    let each = listed_is 4 c.loop-k.residues [] _ c.loop-k.invariant.long (λ j lt. c.loop-k.invariant.done j (omega (arith, below))) in
    subst P c.factors.view_is (chroma_is _ c.args.coefficients.now c.args.first c.loop-k.residues each)
