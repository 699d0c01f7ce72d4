use Rattle.std.proofs.Common.{arith}
use Rattle.std.proofs.lemmas.Int.{ints}
use Rattle.sal_filter.specs.Limits.{level_of}
use Rattle.sal_filter.proofs.Levels.{with_some}
use Rattle.sal_filter.proofs.limits.macroblock_level.Goals as goal

pub returns-clause-value : goal.returns-clause-value
unfolding level_of
returns-clause-value c = with_some _ _ _ _ _ _ _ _ _ c.in-Some.is c.segment_level-level.ensures.value c.reference_delta-reference.ensures.value c.mode_delta.ensures.value (omega (arith, ints)) c.level_in.ensures.value
