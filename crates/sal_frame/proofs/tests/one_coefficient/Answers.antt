use Rattle.std.proofs.Common.{pos, replicate, arith, to_z, of_z, w32}
use Rattle.std.proofs.lemmas.Int.{ints}
use Rattle.std.proofs.lemmas.List.Elements.{All-set, All-replicate}
use Rattle.sal_macroblock.specs.Sizes.{Within}
use Rattle.sal_frame.proofs.tests.one_coefficient.Goals as goal

pub returns : goal.returns
returns c =
    let low = c.requires.0 in
    let high = c.requires.1 in
    let small : Within 2114 (to_z w32 (of_z w32 c.args.coefficient)) = (omega (arith, ints), omega (arith, ints)) in
    let zero : Within 2114 (pos 0) = (omega (arith, ints), omega (arith, ints)) in
    All-set (Within 2114) (replicate 16 (pos 0)) _ _ small (All-replicate (Within 2114) 16 (pos 0) zero)
