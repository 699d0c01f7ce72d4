use Rattle.std.proofs.Common.{take}
use Rattle.sal_decode.proofs.TokensRead.{none_read}
use Rattle.sal_decode.proofs.tokens.Tokens.begin.Goals as goal

pub returns-clause-holds : goal.returns-clause-holds
returns-clause-holds c =
    none_read c.args.bytes.now (take c.args.parts.now.count c.args.parts.now.at) c.args.columns c.in_ok-decoders.decoders.items c.in_ok-above.above.items c.none.result c.none-2.result
    c.none.ensures c.none-2.ensures (c.in_ok-above.ensures.items_if_clones_equal (λ y e. e)) c.in_ok-decoders.ensures.opened
