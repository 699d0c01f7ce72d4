use Rattle.std.proofs.Common.{◌∙◌, ℤ, List, sym, ap, arith}
use Rattle.sal_transform.specs.Residues.{chroma_residues_of}
use Rattle.sal_frame.specs.Records.{Macroblock}
use Rattle.sal_frame.proofs.Nones.{none_chroma}
use Rattle.sal_frame.proofs.Squared.{chroma_is, chroma_none}
use Rattle.sal_frame.proofs.residues.finish_chroma.Goals as goal

pub returns-then-not-block : goal.returns-then-not-block
returns-then-not-block c = λ f predicted. (
    let none = sym (ap (λ (b : Macroblock). b.coefficients) c.block.view_is) ∙ c.block.invariant c.if-not-block.true in
    let nothing = ap (λ (ls : List (List ℤ)). chroma_residues_of c.args.factors.now ls c.args.first) none ∙ none_chroma c.args.factors.now c.args.first c.requires.first in
    chroma_none f c.args.samples.now _ (omega arith) c.are_bytes.ensures predicted nothing)

pub returns : goal.returns
returns c = λ f predicted. (
    let all = c.chroma_residues.ensures ∙ ap (λ (b : Macroblock). chroma_residues_of c.args.factors.now b.coefficients c.args.first) c.block.view_is in
    chroma_is f c.args.samples.now c.add_chroma.new.samples c.chroma_residues.result _ (omega arith) c.add_chroma.ensures predicted all)
