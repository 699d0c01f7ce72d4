use Rattle.std.proofs.Common.{ap, sym}
use Rattle.sal_base.specs.Samples.{listed_from}
use Rattle.sal_tokens.specs.Blocks.{places}
use Rattle.sal_tokens.proofs.places.places.Goals as goal

pub returns-then-has_y2-clause-places : goal.returns-then-has_y2-clause-places
unfolding places listed_from
returns-then-has_y2-clause-places c = ap places (sym c.if-has_y2.true)

pub returns-else-has_y2-clause-places : goal.returns-else-has_y2-clause-places
unfolding places listed_from
returns-else-has_y2-clause-places c = ap places (sym c.if-has_y2.false)
