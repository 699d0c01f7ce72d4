use Rattle.std.proofs.Common.{◌∙◌, ap}
use Rattle.sal_tokens.specs.Written.{macroblock_branches}
use Rattle.sal_tokens.specs.declared.counts.Counts.{Counts}
use Rattle.sal_tokens.proofs.TakingBlocks.{count_all}
use Rattle.sal_tokens.proofs.write.count_macroblock.Goals as goal

pub returns-clause-counts : goal.returns-clause-counts
returns-clause-counts c =
    ap (λ (d : Counts). d.pairs) c.in-Ok.ensures.bits ∙ count_all c.args.counts.now (macroblock_branches c.args.has_y2 c.args.above.now.0 c.args.left.now.0 c.args.coefficients.now)
