use Rattle.std.proofs.Common.{ℕ}
use Rattle.sal_bool.specs.Syntax.{literal}
use Rattle.sal_header.proofs.Values.{run_four}
use Rattle.sal_header.proofs.fields.four_bytes.Goals as goal

pub returns : goal.returns
returns c = record { reads = run_four (λ (x : ℕ). literal 8) 0 _ _ _ _ _ _ _ _ _ c.small-first.ensures.reads c.small-second.ensures.reads c.small-third.ensures.reads c.small-fourth.ensures.reads }
