-- A text that is longer than a script may be has its first bad line within that limit.
use Rattle.std.proofs.Common.{◌≡◌, ◌≢◌, ℕ, zero, suc, ◌+◌, ◌<◌, ◌≤◌, List, ◌++◌, length, take, drop, Result, Err, inl, inr, refl, sym, ap, ◌∙◌, subst, arith, length-append}
use Rattle.std.proofs.lemmas.Bool.{cases_lt}
use Rattle.std.proofs.lemmas.List.{length-take, length-drop, take-append-le, drop-append-le}
use Rattle.sal_script.specs.declared.grammar.Meaning.{Meaning}
use Rattle.sal_script.specs.declared.grammar.Meaning.TheVariants.{Skipped, Said, Bad}
use Rattle.sal_script.specs.Numbered.{Numbered}
use Rattle.sal_script.specs.Script.{most_script, split_lines, placed, meaning, with_line, judged, script_of}
use Rattle.sal_script.proofs.LineLemmas.{before, cut_line, within, beyond}
use Rattle.sal_script.proofs.JudgeLemmas.{fits, past}

-- what a text says from this line on
abbrev pub from : ℕ → ℕ → List ℕ → Result (List Numbered) ℕ
from number end text = judged (placed number end (split_lines text))

-- two texts have the same first bad line
pub record BothBad (a b : Result (List Numbered) ℕ) : Type 0 where
  pub line : ℕ
  pub first : a ≡ Err line
  pub second : b ≡ Err line

from_cut : (text : List ℕ) (k number end : ℕ) → k ≡ before text + 1 → 1 ≤ length text
    → from number end text ≡ with_line (meaning (end + length (take k text)) (take k text)) number (from (number + 1) (end + length (take k text)) (drop k text))
from_cut text k number end e some = ap (λ (lines : List (List ℕ)). judged (placed number end lines)) (cut_line text k e some)

one_line : (m : Meaning) (number : ℕ) (a b : Result (List Numbered) ℕ) → (m ≢ Bad → BothBad a b) → BothBad (with_line m number a) (with_line m number b)
one_line Skipped number a b both = both (λ e. absurd cc)
one_line (Said line) number a b both =
    let more = both (λ e. absurd cc) in
    record { line = more.line; first = ap (with_line (Said line) number) more.first; second = ap (with_line (Said line) number) more.second }
one_line Bad number a b both = record { line = number; first = refl; second = refl }

bad_line : (number end : ℕ) (line : List ℕ) (r : Result (List Numbered) ℕ) → most_script < end → with_line (meaning end line) number r ≡ Err number
bad_line number end line r lt = ap (λ (m : Meaning). with_line m number r) (past end line lt)

-- the first line has a newline
same_line : (xs ys : List ℕ) (number end : ℕ) → before xs < length xs
    → (meaning (end + length (take (before xs + 1) xs)) (take (before xs + 1) xs) ≢ Bad → BothBad (from (number + 1) (end + length (take (before xs + 1) xs)) (drop (before xs + 1) xs)) (from (number + 1) (end + length (take (before xs + 1) xs)) (drop (before xs + 1) xs ++ ys)))
    → BothBad (from number end xs) (from number end (xs ++ ys))
same_line xs ys number end lt both =
    let k = before xs + 1 in
    let here = one_line (meaning (end + length (take k xs)) (take k xs)) number _ _ both in
    let front : take k (xs ++ ys) ≡ take k xs = take-append-le k xs ys (omega (arith, lt)) in
    let rest : drop k (xs ++ ys) ≡ drop k xs ++ ys = drop-append-le k xs ys (omega (arith, lt)) in
    let first = from_cut xs k number end refl (omega (arith, lt)) in
    let second = from_cut (xs ++ ys) k number end (ap (λ (n : ℕ). n + 1) (sym (within xs ys lt))) (omega (arith, lt, length-append xs ys)) in
    let P : List ℕ → List ℕ → Type 0 = λ line more. from number end (xs ++ ys) ≡ with_line (meaning (end + length line) line) number (from (number + 1) (end + length line) more) in
    let third = subst (λ (more : List ℕ). P (take k xs) more) rest (subst (λ (line : List ℕ). P line (drop k (xs ++ ys))) front second) in
    record { line = here.line; first = first ∙ here.first; second = third ∙ here.second }

-- the first line has none, and goes past the limit
last_line : (xs ys : List ℕ) (number end : ℕ) → 1 ≤ length xs → length xs ≤ before xs → most_script < end + length xs → BothBad (from number end xs) (from number end (xs ++ ys))
last_line xs ys number end some le lt =
    let k = before xs + 1 in
    let j = before (xs ++ ys) + 1 in
    let more = beyond xs ys le in
    record {
      line = number;
      first = from_cut xs k number end refl some ∙ bad_line number _ (take k xs) _ (omega (arith, length-take k xs, le, lt));
      second = from_cut (xs ++ ys) j number end refl (omega (arith, some, length-append xs ys)) ∙ bad_line number _ (take j (xs ++ ys)) _ (omega (arith, length-take j (xs ++ ys), length-append xs ys, more, lt));
    }

either : (a b : ℕ) (P : Type 0) → (a < b → P) → (b ≤ a → P) → P
either a b P f g = elim (cases_lt a b) [ inl p ↦ f p | inr p ↦ g p ]

both_bad : (n : ℕ) (xs ys : List ℕ) (number end : ℕ) → length xs ≤ n → end ≤ most_script → most_script < end + length xs → BothBad (from number end xs) (from number end (xs ++ ys))
both_bad zero xs ys number end le short long = absurd (omega (arith, le, short, long))
both_bad (suc n) xs ys number end le short long =
    either (before xs) (length xs) _
    (λ lt. same_line xs ys number end lt (λ good.
    both_bad n (drop (before xs + 1) xs) ys (number + 1) (end + length (take (before xs + 1) xs))
    (omega (arith, le, lt, length-drop (before xs + 1) xs)) (fits _ _ good) (omega (arith, long, lt, length-take (before xs + 1) xs, length-drop (before xs + 1) xs))))
    (λ ge. last_line xs ys number end (omega (arith, short, long)) ge long)

-- what such a text says, and what any that begins with it says
pub cut_off : (text more : List ℕ) → most_script < length text → BothBad (script_of text) (script_of (text ++ more))
cut_off text more long = both_bad (length text) text more 1 0 (omega arith) (omega arith) (omega (arith, long))
