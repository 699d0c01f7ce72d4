use Rattle.sal_words.proofs.ReadLemmas.{failed, parsed, utf8_words}
use Rattle.sal_words.proofs.said.read_said.Goals as goal

pub returns-in-Ok-try_get_matches_from : goal.returns-in-Ok-try_get_matches_from
returns-in-Ok-try_get_matches_from c =
    parsed _ c.requires _ (utf8_words c.args.words.now) _ c.in-Ok-try_get_matches_from.matches c.in-Ok.ensures c.in-Ok-try_get_matches_from.ensures.kinds c.in-Ok-try_get_matches_from.ensures.matches

pub returns-in-Err-try_get_matches_from : goal.returns-in-Err-try_get_matches_from
returns-in-Err-try_get_matches_from c =
    failed _ c.requires _ (utf8_words c.args.words.now) _ c.in-Err-try_get_matches_from.error _ c.in-Ok.ensures c.in-Err-try_get_matches_from.ensures.kinds c.fault_of.ensures
