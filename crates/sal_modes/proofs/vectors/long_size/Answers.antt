use Rattle.sal_modes.proofs.VectorLemmas.{long_below, long_above}
use Rattle.sal_modes.proofs.vectors.long_size.Goals as goal

pub returns-then-value-lt16-clause-reads : goal.returns-then-value-lt16-clause-reads
returns-then-value-lt16-clause-reads c = long_below _ _ _ _ c.bits_at-value.ensures.reads c.if-value-lt16.true

pub returns-else-value-lt16-clause-reads : goal.returns-else-value-lt16-clause-reads
returns-else-value-lt16-clause-reads c = long_above _ _ _ _ _ c.bits_at-value.ensures.reads c.if-value-lt16.false c.bits_at.ensures.reads
