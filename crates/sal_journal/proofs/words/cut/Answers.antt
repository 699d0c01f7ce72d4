use Rattle.sal_journal.proofs.CutLemmas.{cut_some, cut_none}
use Rattle.sal_journal.proofs.words.cut.Goals as goal

pub returns-in-Some-clause-parts : goal.returns-in-Some-clause-parts
returns-in-Some-clause-parts c = cut_some _ _ _ _ _ _ _ c.bytes_before.ensures.count c.split_at.ensures.front c.split_at.ensures.back c.in-Some.ensures.cases.0

pub returns-in-None-clause-parts : goal.returns-in-None-clause-parts
returns-in-None-clause-parts c = cut_none _ _ _ _ c.bytes_before.ensures.count c.split_at.ensures.back_len c.in-None.ensures.cases
