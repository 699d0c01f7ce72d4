use Rattle.sal_journal.proofs.JournalLemmas.{journal_back}
use Rattle.sal_journal.proofs.laws.is_read_again.Goals as goal

pub returns : goal.returns
returns c = journal_back
