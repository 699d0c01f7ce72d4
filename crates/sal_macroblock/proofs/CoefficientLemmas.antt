-- Blocks without coefficients.
use Rattle.std.proofs.Common.{pos, replicate, arith, All}
use Rattle.std.proofs.lemmas.Int.{ints}
use Rattle.std.proofs.lemmas.List.Elements.{All-replicate}
use Rattle.sal_macroblock.specs.Sizes.{Within}
use Rattle.sal_macroblock.specs.declared.block.Block.{Block}

abbrev none : Block
none = record { 0 = replicate 16 (pos 0) }

zero_small : Within 2114 (pos 0)
zero_small = (omega (arith, ints), omega (arith, ints))

pub none_small : All (λ (b : Block). All (Within 2114) b.0) (replicate 25 none)
none_small = All-replicate (λ (b : Block). All (Within 2114) b.0) 25 none (All-replicate (Within 2114) 16 (pos 0) zero_small)
