use Rattle.std.proofs.Common.{ap, length}
use Rattle.sal_decode.proofs.TokensRead.{read_next}
use Rattle.sal_decode.proofs.tokens.Tokens.read.Goals as goal

pub returns-clause-reads : goal.returns-clause-reads
returns-clause-reads c bytes parts columns k r column row holds =
    read_next bytes parts c.args.probs.now.coefficients columns k c.args.column c.args.row c.args.mode.now r c.args.self.now.decoders.items c.args.self.now.above.items c.args.self.now.left
    c.index_mut-2.result.now c.left_of-self.result c.read_coefficients.new.above c.read_coefficients.new.left (length c.as_slice.result.now) c.index_mut.result.now c.read_coefficients.new.decoder c.read_coefficients.new.coefficients c.read_coefficients.result
    column row c.requires.column c.requires.some (ap length c.as_slice.ensures.value) holds c.index_mut.ensures.value c.index_mut-2.ensures.value c.left_of-self.ensures c.read_coefficients.ensures.exact
