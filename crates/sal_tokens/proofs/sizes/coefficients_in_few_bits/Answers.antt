use Rattle.sal_tokens.proofs.TokenBits.{block_bits, macroblock_bits}
use Rattle.sal_tokens.proofs.sizes.coefficients_in_few_bits.Goals as goal

pub returns-clause-block : goal.returns-clause-block
returns-clause-block c = block_bits

pub returns-clause-macroblock : goal.returns-clause-macroblock
returns-clause-macroblock c = macroblock_bits
