use Rattle.std.proofs.Common.{take, drop}
use Rattle.sal_tokens.specs.Written.{macroblock_branches, after_macroblock, AreSized}
use Rattle.sal_tokens.proofs.TakingBlocks.{Going}
use Rattle.sal_tokens.proofs.write.walk_macroblock.Given as goal

abbrev pub invariant-loop-place : goal.invariant-loop-place
invariant-loop-place g l = record {
  going : Going (g.S.Sink.after l.table) l.coefficients (drop l.place-index l.place-items) l.sink l.has_coefficients l.above.0 l.left.0 l.fn.sink (macroblock_branches l.fn.has_y2 l.fn.above.0 l.fn.left.0 l.coefficients) (after_macroblock l.fn.has_y2 l.fn.above.0 l.fn.left.0 l.coefficients);
  sized : AreSized l.coefficients (take l.place-index l.place-items);
}
