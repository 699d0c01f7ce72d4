use Rattle.std.proofs.Common.{arith}
use Rattle.sal_frame.proofs.square.are_bytes.Goals as goal

pub returns : goal.returns
returns c = λ k. omega (arith, c.type_inv.samples k)
