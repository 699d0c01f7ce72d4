use Rattle.std.proofs.Common.{◌∙◌}
use Rattle.sal_tokens.specs.Coefficients.{block}
use Rattle.sal_tokens.specs.Written.{block_branches, block_pairs, is_some_block}
use Rattle.sal_bool.proofs.Bounds.{follows_few}
use Rattle.sal_tokens.proofs.TokenBits.{block_bits}
use Rattle.sal_tokens.proofs.WrittenBlocks.{block_again}
use Rattle.sal_tokens.proofs.TakingBlocks.{put_all, is_block, read_where}
use Rattle.sal_tokens.proofs.write.write_block.Goals as goal

pub returns-clause-pairs : goal.returns-clause-pairs
returns-clause-pairs c = c.in_ok-starts.ensures.bits ∙ put_all c.args.probs.now.coefficients c.args.encoder.now (block_branches c.args.kind c.args.context c.args.coefficients.now.0)

pub returns-clause-follows : goal.returns-clause-follows
returns-clause-follows c =
    block_again c.args.probs.now.coefficients c.args.kind c.args.context c.args.coefficients.now.0 (is_block c.args.kind c.args.coefficients.now.0 c.in_ok-starts.ensures.long c.requires.small c.requires.first)

pub returns-clause-read_back : goal.returns-clause-read_back
returns-clause-read_back c = λ before more a b e.
    read_where (block c.args.probs.now.coefficients c.args.kind c.args.context) (block_pairs c.args.probs.now.coefficients c.args.kind c.args.context c.args.coefficients.now.0) (c.args.coefficients.now.0, is_some_block c.args.kind c.args.coefficients.now.0) before more c.args.encoder.now c.walk_block.new.sink
    (returns-clause-follows c) a b e (returns-clause-pairs c)

pub returns-clause-few : goal.returns-clause-few
returns-clause-few c = follows_few (block c.args.probs.now.coefficients c.args.kind c.args.context) _ _ 544 (block_bits c.args.probs.now.coefficients c.args.kind c.args.context) (returns-clause-follows c)
