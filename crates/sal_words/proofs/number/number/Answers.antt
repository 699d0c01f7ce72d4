use Rattle.std.proofs.Common.{rules}
use Rattle.sal_words.proofs.NumberLemmas.{not_parsed}
use Rattle.sal_words.proofs.number.number.Goals as goal

pub returns-in-Err-clause-value : goal.returns-in-Err-clause-value
returns-in-Err-clause-value c = not_parsed _ _ c.args.text.now c.in-Err.field-0 c.in-Err.ensures.value.0 (search rules) c.ranges.most.fits
