use Rattle.sal_script.proofs.LineLemmas.{first_ended, first_unended}
use Rattle.sal_script.proofs.reading.split_line.Goals as goal

pub returns-in-Some : goal.returns-in-Some
returns-in-Some c =
    first_ended _ _ _ _ _ _ c.requires c.bytes_before_newline.ensures.count c.split_at.ensures.front c.split_at.ensures.back c.in-Some.ensures.cases.0

pub returns-in-None : goal.returns-in-None
returns-in-None c =
    first_unended _ _ _ _ c.requires c.bytes_before_newline.ensures.count c.split_at.ensures.front c.split_at.ensures.back_len c.in-None.ensures.cases
