use Rattle.std.proofs.Common.{◌≡◌, false, drop}
use Rattle.sal_macroblock.specs.Blocks.{no_coefficients}
use Rattle.sal_bool.specs.Syntax.{run}
use Rattle.sal_tokens.specs.Blocks.{tokens, blocks, macroblock}
use Rattle.sal_tokens.proofs.macroblock.read_macroblock.Given as goal

abbrev pub invariant-loop-place : goal.invariant-loop-place
invariant-loop-place l = record {
  reads : run (blocks l.fn.probs.coefficients (drop l.place-index l.place-items) (tokens l.coefficients l.has_coefficients l.above.0 l.left.0)) l.decoder
      ≡ run (macroblock l.fn.probs.coefficients l.fn.has_y2 l.fn.above.0 l.fn.left.0) l.fn.decoder;
  none : l.has_coefficients ≡ false → l.coefficients ≡ no_coefficients;
}
