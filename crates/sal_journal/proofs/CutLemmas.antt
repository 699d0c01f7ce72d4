-- A text, cut at the first byte of one value.
use Rattle.std.proofs.Common.{◌≡◌, ℕ, ◌+◌, ◌<◌, ◌==◌, suc, zero, List, [], ◌∷◌, length, take, drop, refl, sym, ap, ◌∙◌, arith, cond, not, true, false, Bool, length-drop}
use Rattle.std.specs.List.{slice_split, position_or_len, before_first, after_first, onto_first}
use Rattle.std.proofs.lemmas.List.Splits.{slice_split_first}

abbrev at_byte : ℕ → ℕ → Bool
at_byte at = λ byte. byte == at

drop_next : (n : ℕ) (xs : List ℕ) (x : ℕ) (after : List ℕ) → drop n xs ≡ x ∷ after → after ≡ drop (suc n) xs
drop_next zero xs x after e = sym (ap (drop 1) e)
drop_next (suc n) [] x after e = absurd cc
drop_next (suc n) (y ∷ xs) x after e = drop_next n xs x after e

drop_one : (n : ℕ) (xs : List ℕ) (x : ℕ) (after : List ℕ) → drop n xs ≡ x ∷ after → after ≡ drop (n + 1) xs
drop_one n xs x after e = let next : suc n ≡ n + 1 = omega arith in drop_next n xs x after e ∙ ap (λ (k : ℕ). drop k xs) next

-- the byte stands in the text
pub cut_some : (at : ℕ) (text front rest after : List ℕ) (count byte : ℕ) → count ≡ position_or_len (at_byte at) text → front ≡ take count text → rest ≡ drop count text → rest ≡ byte ∷ after
    → slice_split (at_byte at) text ≡ front ∷ slice_split (at_byte at) after
cut_some at text front rest after count byte is front_is rest_is found =
    let long : length (drop count text) ≡ length (byte ∷ after) = ap length (sym rest_is ∙ found) in
    let inside : position_or_len (at_byte at) text < length text = omega (arith, is, long, length-drop count text) in
    let one = slice_split_first (at_byte at) text 0 inside in
    let same_front : before_first (at_byte at) text ≡ front = ap (λ (n : ℕ). take n text) (sym is) ∙ sym front_is in
    let same_after : after_first (at_byte at) text ≡ after = ap (λ (n : ℕ). drop (n + 1) text) (sym is) ∙ sym (drop_one count text byte after (sym rest_is ∙ found)) in
    one ∙ ap (λ (xs : List ℕ). xs ∷ slice_split (at_byte at) (after_first (at_byte at) text)) same_front ∙ ap (λ (xs : List ℕ). front ∷ slice_split (at_byte at) xs) same_after

whole : (at : ℕ) (text : List ℕ) → position_or_len (at_byte at) text ≡ length text → slice_split (at_byte at) text ≡ text ∷ []
whole at [] e = refl
whole at (b ∷ text) e =
    (elim (b == at) as (λ t. cond (not t) (1 + position_or_len (at_byte at) text) 0 ≡ suc (length text) → cond t ([] ∷ slice_split (at_byte at) text) (onto_first b (slice_split (at_byte at) text)) ≡ (b ∷ text) ∷ []) [
      | true ↦ λ e. absurd (omega (arith, e))
      | false ↦ λ e. ap (onto_first b) (whole at text (omega (arith, e)))
    ]) e

-- it doesn't
pub cut_none : (at : ℕ) (text rest : List ℕ) (count : ℕ) → count ≡ position_or_len (at_byte at) text → length rest + count ≡ length text → length rest ≡ 0 → slice_split (at_byte at) text ≡ text ∷ []
cut_none at text rest count is len none = whole at text (omega (arith, is, len, none))
