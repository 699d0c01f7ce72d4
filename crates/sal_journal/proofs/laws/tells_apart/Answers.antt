use Rattle.sal_journal.proofs.JournalLemmas.{journals_apart}
use Rattle.sal_journal.proofs.laws.tells_apart.Goals as goal

pub returns : goal.returns
returns c = journals_apart
