use Rattle.std.proofs.Common.{sym}
use Rattle.sal_journal.proofs.WordLemmas.{some_part}
use Rattle.sal_journal.proofs.words.is_done.Goals as goal

pub returns-in-Some : goal.returns-in-Some
returns-in-Some c = rw c.in-Some.is (sym (some_part 32 c.in-Some.field-0.now))
