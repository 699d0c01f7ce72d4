use Rattle.std.proofs.Common.{◌≤◌, All}
use Rattle.sal_macroblock.specs.Sizes.{Within}
use Rattle.sal_tokens.proofs.Blocks.{SoFar}
use Rattle.sal_tokens.proofs.read.read_block.Given as goal

abbrev pub invariant-coefficients : goal.invariant-coefficients
invariant-coefficients l = record {
  low : l.context ≤ 2;
  small : All (Within 2114) l.coefficients;
  so_far : SoFar l.fn.probs.coefficients l.fn.kind l.fn.context l.position l.context l.after_zero l.fn.decoder l.decoder l.coefficients;
}
