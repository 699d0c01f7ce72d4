use Rattle.std.proofs.Common.{◌∙◌, ℤ, List, Bool, sym, ap, arith}
use Rattle.sal_macroblock.specs.Macroblocks.{has_y2}
use Rattle.sal_transform.specs.Residues.{luma_residues_of}
use Rattle.sal_frame.specs.Records.{Macroblock}
use Rattle.sal_frame.proofs.Nones.{none_luma}
use Rattle.sal_frame.proofs.Squared.{luma_is, luma_none}
use Rattle.sal_frame.proofs.residues.finish_luma.Goals as goal

pub returns-then-not-block : goal.returns-then-not-block
returns-then-not-block c = λ f predicted. (
    let y2 = has_y2 c.args.block.now.mode.y in
    let none = sym (ap (λ (b : Macroblock). b.coefficients) c.block.view_is) ∙ c.block.invariant c.if-not-block.true in
    let nothing = ap (λ (ls : List (List ℤ)). luma_residues_of c.args.factors.now y2 ls) none ∙ none_luma c.args.factors.now y2 in
    luma_none f c.args.samples.now _ (omega arith) c.are_bytes.ensures predicted nothing)

pub returns : goal.returns
returns c = λ f predicted. (
    let s = c.args.factors.now in
    let all = c.luma_residues.ensures ∙ (ap (λ (t : Bool). luma_residues_of s t c.block.inside.coefficients.now) c.has_y2.ensures ∙ ap (λ (b : Macroblock). luma_residues_of s (has_y2 b.mode.y) b.coefficients) c.block.view_is) in
    luma_is f c.args.samples.now c.add_luma.new.samples c.luma_residues.result _ (omega arith) c.add_luma.ensures predicted all)
