use Rattle.std.proofs.Common.{◌∙◌, ap, sym}
use Rattle.std.proofs.lemmas.Result.{IfOk-weaker}
use Rattle.sal_bool.specs.Written.{written}
use Rattle.sal_encode.proofs.TokensWritten.{none_left}
use Rattle.sal_encode.proofs.tokens.Tokens.finish.Goals as goal

pub returns : goal.returns
returns c =
    IfOk-weaker c.finish.result _ _ (λ b e probabilities columns k. e ∙ ap written (sym (none_left probabilities columns k c.args.self.encoder c.args.self.above.items c.args.self.left))) c.finish.ensures.bytes
