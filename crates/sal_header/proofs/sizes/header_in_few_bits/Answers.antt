use Rattle.sal_header.proofs.HeaderBits.{header_bits}
use Rattle.sal_header.proofs.sizes.header_in_few_bits.Goals as goal

pub returns : goal.returns
returns c = header_bits
