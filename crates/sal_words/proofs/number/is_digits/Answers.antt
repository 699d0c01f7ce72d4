use Rattle.std.proofs.Common.{rules, ◌∙◌, tests, ap}
use Rattle.std.specs.Str.{all_ascii_digits}
use Rattle.std.specs.Char.{is_ascii_digit}
use Rattle.std.proofs.lemmas.Iterator.Search.{all_from_yields_List}
use Rattle.std.proofs.lemmas.Iterator.{YieldsList-from_slice}
use Rattle.sal_words.proofs.NumberLemmas.{all_digits}
use Rattle.sal_words.proofs.number.is_digits.Goals as goal

pub returns : goal.returns
returns c =
    let all = all_from_yields_List is_ascii_digit _ _ c.all.result c.all.ensures.ran (YieldsList-from_slice c.as_bytes.result.now cc) (λ x b q k. search (rules, tests)) in
    all ∙ all_digits c.as_bytes.result.now ∙ ap all_ascii_digits c.as_bytes.ensures.value
