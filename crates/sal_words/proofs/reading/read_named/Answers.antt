use Rattle.sal_words.proofs.VerbLemmas.{named}
use Rattle.sal_words.proofs.reading.read_named.Goals as goal

pub returns : goal.returns
returns c = named _ _ _ _ _ c.in-Some.ensures c.options.ensures.names (c.answer.ensures _ c.read_said.ensures)
