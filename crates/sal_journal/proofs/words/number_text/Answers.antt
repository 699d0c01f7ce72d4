use Rattle.std.proofs.Common.{sym}
use Rattle.sal_journal.proofs.WordLemmas.{plain_utf8}
use Rattle.sal_journal.proofs.words.number_text.Goals as goal

pub unreachable-requires : goal.unreachable-requires
unreachable-requires c = c.in-Err.ensures.cases.0 (plain_utf8 _ (sym c.if-not-is_number.ensures))
