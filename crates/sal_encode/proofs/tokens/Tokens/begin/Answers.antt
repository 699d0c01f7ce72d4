use Rattle.sal_encode.proofs.TokensWritten.{none_written}
use Rattle.sal_encode.proofs.tokens.Tokens.begin.Goals as goal

pub returns-clause-all : goal.returns-clause-all
returns-clause-all c =
    none_written c.args.columns c.new.result c.in_ok-above.above.items c.none.result c.none-2.result c.new.ensures (c.in_ok-above.ensures.items_if_clones_equal (λ y e. e)) c.none.ensures c.none-2.ensures
