use Rattle.std.proofs.Common.{◌∙◌, ℤ, List, ap, slice_set}
use Rattle.std.proofs.lemmas.List.{map-set}
use Rattle.sal_macroblock.specs.declared.block.Block.{Block}
use Rattle.sal_macroblock.proofs.coefficients.Coefficients.put.Goals as goal

pub returns : goal.returns
returns c =
    map-set (λ (b : Block). b.0) c.self.inside.blocks c.args.index c.args.block
    ∙ ap (λ (zs : List (List ℤ)). slice_set zs c.args.index c.args.block.0) c.self.view_is
