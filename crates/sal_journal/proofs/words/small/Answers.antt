use Rattle.std.proofs.Common.{sym, ◌∙◌}
use Rattle.sal_journal.proofs.WordLemmas.{not_number, parsed_word}
use Rattle.sal_journal.proofs.words.small.Goals as goal

pub returns-in-Some : goal.returns-in-Some
returns-in-Some c = c.ok.ensures.value ∙ parsed_word 32 _ _ _ c.in-Some.ensures.text.0 c.in-Some.ensures.text.1 c.parse.ensures.value.0

pub returns-in-None : goal.returns-in-None
returns-in-None c = sym (not_number 32 c.args.word.now c.in-None.ensures.none)
