-- Numbers in words.
use Rattle.std.proofs.Common.{◌≡◌, ℕ, ◌<◌, ◌^◌, Bool, true, false, cond, ◌&&◌, List, [], ◌∷◌, length, Some, None, Err, refl, ap, arith}
use Rattle.std.proofs.lemmas.Bool.Decides.{nat_tests}
use Rattle.std.specs.Prelude.{nat_lt, nat_le}
use Rattle.std.specs.List.{list_all}
use Rattle.std.specs.Char.{is_ascii_digit}
use Rattle.std.specs.Str.{all_ascii_digits}
use Rattle.std.specs.Str.Parse.{digits_value, ParsesUnsigned}
use Rattle.std.proofs.lemmas.Str.Parse.{IsNumeralModel, numerals_by_value, tells_all_ascii_digits, parse_digits}
use Rattle.sal_words.specs.Words.{Text, ◌>>=◌}
use Rattle.sal_words.specs.Numbers.{number_within}

pub all_digits : (bs : List ℕ) → list_all is_ascii_digit bs ≡ all_ascii_digits bs
all_digits [] = refl
all_digits (b ∷ bs) = ap (λ t. is_ascii_digit b && t) (all_digits bs)

own : IsNumeralModel (λ ds. all_ascii_digits ds ≡ true) (digits_value 10)
own = numerals_by_value _ tells_all_ascii_digits

-- a numeral that has no 64 bits is no number within bounds that have
pub not_parsed : {E : Type 0} (least most : ℕ) (text : Text) (e : E) → ParsesUnsigned 64 10 text (Err e) → all_ascii_digits text ≡ true → most < 2 ^ 64
    → None ≡ number_within least most text
not_parsed least most text e h digits fits =
    let refused = parse_digits own 64 text (Err e) h digits in go refused (nat_lt 0 (length text) && nat_le (length text) 20 && all_ascii_digits text) refl
  where
    go : ((0 < length text) × (digits_value 10 text < 2 ^ 64) → ⊥) → (t : Bool) → (nat_lt 0 (length text) && nat_le (length text) 20 && all_ascii_digits text) ≡ t
        → None ≡ (cond t (Some (digits_value 10 text)) None >>= λ n. cond (nat_le least n && nat_le n most) (Some n) None)
    go refused false e = refl
    go refused true e = grind (arith, nat_tests)
