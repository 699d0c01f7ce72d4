use Rattle.std.proofs.Common.{arith}
use Rattle.sal_io.proofs.ToldLemmas.{takes_piece}
use Rattle.sal_io.proofs.contents.read_all.Goals as goal

pub returns-then-is_err-clause-limit : goal.returns-then-is_err-clause-limit
returns-then-is_err-clause-limit g c =
    takes_piece _ _ _ _ _ _ _ _ (omega (arith, c.len.ensures)) c.in-Got.ensures.bytes.1
    (omega (arith, c.read.auto.buf, c.as_mut_slice.ensures.len, c.loop-source.invariant.room)) c.loop-source.invariant.taken c.in-Got.ensures.bytes.2

pub returns-clause-limit : goal.returns-clause-limit
returns-clause-limit g c = (c.loop-source.bytes, c.loop-source.invariant.within, c.loop-source.invariant.taken)
