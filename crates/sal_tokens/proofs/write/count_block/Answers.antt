use Rattle.std.proofs.Common.{◌∙◌, ap}
use Rattle.sal_tokens.specs.Written.{block_branches}
use Rattle.sal_tokens.specs.declared.counts.Counts.{Counts}
use Rattle.sal_tokens.proofs.TakingBlocks.{count_all}
use Rattle.sal_tokens.proofs.write.count_block.Goals as goal

pub returns-clause-counts : goal.returns-clause-counts
returns-clause-counts c = ap (λ (d : Counts). d.pairs) c.in-Ok.ensures.bits ∙ count_all c.args.counts.now (block_branches c.args.kind c.args.context c.args.coefficients.now.0)
