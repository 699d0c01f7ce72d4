-- Both ends, and what was counted of their answers.
use Rattle.sal_world.specs.WorldParts.{WorldParts}
use Rattle.sal_run.specs.declared.counted.Counts.{Counts}

pub record CountedParts (S : Type 0) : Type 0 where
  pub world : WorldParts S
  pub counts : Counts
