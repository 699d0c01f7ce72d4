use Rattle.std.proofs.Common.{◌∙◌, subst}
use Rattle.sal_tokens.specs.Blocks.{macroblock, Tokens, tokens}
use Rattle.sal_tokens.specs.Written.{macroblock_branches, macroblock_pairs}
use Rattle.sal_bool.specs.Syntax.{Follows}
use Rattle.sal_bool.proofs.Bounds.{follows_few}
use Rattle.sal_tokens.proofs.TokenBits.{macroblock_bits}
use Rattle.sal_tokens.proofs.WrittenMacroblocks.{macroblock_again}
use Rattle.sal_tokens.proofs.TakingBlocks.{put_all, after_is, read_where}
use Rattle.sal_tokens.proofs.write.write_macroblock.Goals as goal

pub returns-clause-pairs : goal.returns-clause-pairs
returns-clause-pairs c = c.in_ok-has_coefficients.ensures.bits ∙ put_all c.args.probs.now.coefficients c.args.encoder.now (macroblock_branches c.args.has_y2 c.args.above.now.0 c.args.left.now.0 c.args.coefficients.now)

pub returns-clause-after : goal.returns-clause-after
returns-clause-after c = after_is c.args.has_y2 c.args.above.now.0 c.args.left.now.0 c.walk_macroblock.new.above.0 c.walk_macroblock.new.left.0 c.in_ok-has_coefficients.has_coefficients c.args.coefficients.now c.requires c.in_ok-has_coefficients.ensures.after

pub returns-clause-follows : goal.returns-clause-follows
returns-clause-follows c = macroblock_again c.args.probs.now.coefficients c.args.has_y2 c.args.above.now.0 c.args.left.now.0 c.args.coefficients.now c.requires c.in_ok-has_coefficients.ensures.sized

pub returns-clause-read_back : goal.returns-clause-read_back
returns-clause-read_back c = λ before more a b e.
    (let same : Tokens = tokens c.args.coefficients.now c.in_ok-has_coefficients.has_coefficients c.walk_macroblock.new.above.0 c.walk_macroblock.new.left.0 in
    let P : Tokens → Type 0 = λ t. Follows (macroblock c.args.probs.now.coefficients c.args.has_y2 c.args.above.now.0 c.args.left.now.0) (macroblock_pairs c.args.probs.now.coefficients c.args.has_y2 c.args.above.now.0 c.args.left.now.0 c.args.coefficients.now) t in
    read_where (macroblock c.args.probs.now.coefficients c.args.has_y2 c.args.above.now.0 c.args.left.now.0) (macroblock_pairs c.args.probs.now.coefficients c.args.has_y2 c.args.above.now.0 c.args.left.now.0 c.args.coefficients.now) same before more c.args.encoder.now c.walk_macroblock.new.sink (subst P (returns-clause-after c) (returns-clause-follows c)) a b e (returns-clause-pairs c))

pub returns-clause-few : goal.returns-clause-few
returns-clause-few c =
    follows_few (macroblock c.args.probs.now.coefficients c.args.has_y2 c.args.above.now.0 c.args.left.now.0) _ _ 13600 (macroblock_bits c.args.probs.now.coefficients c.args.has_y2 c.args.above.now.0 c.args.left.now.0) (returns-clause-follows c)
