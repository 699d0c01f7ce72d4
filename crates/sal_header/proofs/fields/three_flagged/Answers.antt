use Rattle.sal_bool.specs.Syntax.{flagged, literal}
use Rattle.sal_header.proofs.Values.{run_three}
use Rattle.sal_header.proofs.fields.three_flagged.Goals as goal

pub returns : goal.returns
returns c = record { reads = run_three (flagged (literal 8)) 255 _ _ _ _ _ _ _ c.flagged_byte-first.ensures.reads c.flagged_byte-second.ensures.reads c.flagged_byte-third.ensures.reads }
