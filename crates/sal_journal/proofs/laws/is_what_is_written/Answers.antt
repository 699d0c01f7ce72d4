use Rattle.sal_journal.proofs.JournalLemmas.{journal_said}
use Rattle.sal_journal.proofs.laws.is_what_is_written.Goals as goal

pub returns : goal.returns
returns c = journal_said
