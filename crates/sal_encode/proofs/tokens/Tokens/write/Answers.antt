use Rattle.std.proofs.Common.{}
use Rattle.std.proofs.lemmas.Result.{IfOk-weaker}
use Rattle.sal_encode.proofs.TokensWritten.{planned_so, one_written, ok_with}
use Rattle.sal_encode.proofs.tokens.Tokens.write.Goals as goal

pub returns-clause-planned : goal.returns-clause-planned
returns-clause-planned c =
    IfOk-weaker c.write_coefficients.result _ _ (λ b e. planned_so c.args.mode.now c.args.coefficients.now b c.args.self.now.above.items c.args.self.now.left c.index_mut.result.now c.left_of-self.result c.write_coefficients.new.above c.write_coefficients.new.left c.args.column
    c.requires.levels e) c.write_coefficients.ensures.after

pub returns-clause-more : goal.returns-clause-more
returns-clause-more c =
    ok_with c.write_coefficients.result _ _ _ c.write_coefficients.ensures.after c.write_coefficients.ensures.pairs
    (λ b after put. one_written c.args.mode.now c.args.coefficients.now b c.args.self.now.above.items c.args.self.now.left c.index_mut.result.now c.left_of-self.result c.write_coefficients.new.above c.write_coefficients.new.left c.args.column
    c.args.probs.now.coefficients c.args.self.now.encoder c.write_coefficients.new.encoder c.requires.column c.index_mut.ensures.value c.left_of-self.ensures after put)
