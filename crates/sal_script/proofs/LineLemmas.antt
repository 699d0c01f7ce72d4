-- The first line of a text.
use Rattle.std.proofs.Common.{◌≡◌, ℕ, zero, suc, ◌+◌, ◌<◌, ◌≤◌, Bool, true, false, not, cond, eqb, List, [], ◌∷◌, ◌++◌, length, take, drop, refl, sym, ap, ◌∙◌, subst, arith}
use Rattle.std.specs.List.{position_or_len, onto_first}
use Rattle.std.proofs.lemmas.List.{length-take, length-drop, take-append-drop}
use Rattle.std.proofs.lemmas.List.Folds.{prefix_len-append}
use Rattle.std.proofs.lemmas.List.Sums.{prefix_len-le-length}
use Rattle.std.proofs.lemmas.Bool.Decides.{nat_tests}
use Rattle.sal_script.specs.Line.{is_newline, text_of}
use Rattle.sal_script.specs.Script.{split_lines}
use Rattle.sal_script.specs.Steps.{IsFirst}

-- how many bytes stand before the first newline
abbrev pub before : List ℕ → ℕ
before text = position_or_len is_newline text

onto : (b : ℕ) (bs : List ℕ) (j : ℕ) → j ≡ before bs + 1 → (1 ≤ length bs → split_lines bs ≡ take j bs ∷ split_lines (drop j bs)) → onto_first b (split_lines bs) ≡ (b ∷ take j bs) ∷ split_lines (drop j bs)
unfolding split_lines
onto b [] zero e more = absurd (omega (arith, e))
onto b [] (suc j) e more = refl
onto b (c ∷ bs) j e more = ap (onto_first b) (more (omega arith))

pub cut_line : (bs : List ℕ) (k : ℕ) → k ≡ before bs + 1 → 1 ≤ length bs → split_lines bs ≡ take k bs ∷ split_lines (drop k bs)
unfolding split_lines
cut_line [] k e le = absurd (omega (arith, le))
cut_line (b ∷ bs) zero e le = absurd (omega (arith, e))
cut_line (b ∷ bs) (suc j) e le =
    (elim (eqb b 10) as (λ t. eqb b 10 ≡ t → suc j ≡ cond (not t) (1 + before bs) 0 + 1 → split_lines (b ∷ bs) ≡ take (suc j) (b ∷ bs) ∷ split_lines (drop (suc j) (b ∷ bs))) [
      | true ↦ λ same e.
          let none : 0 ≡ j = omega (arith, e) in
          let P : ℕ → Type 0 = λ n. split_lines (b ∷ bs) ≡ take (suc n) (b ∷ bs) ∷ split_lines (drop (suc n) (b ∷ bs)) in
          subst P none (rw same refl)
      | false ↦ λ same e.
          let here : j ≡ before bs + 1 = omega (arith, e) in
          let P : List (List ℕ) → Type 0 = λ lines. cond (eqb b 10) ((b ∷ []) ∷ split_lines bs) (onto_first b (split_lines bs)) ≡ lines in
          subst P (onto b bs j here (cut_line bs j here)) (rw same refl)
    ] refl) e

one_more : (n b : ℕ) (xs : List ℕ) → take (1 + n) (b ∷ xs) ≡ b ∷ take n xs
one_more n b xs = let e : suc n ≡ 1 + n = omega arith in subst (λ (k : ℕ). take k (b ∷ xs) ≡ b ∷ take n xs) e refl

text_cut : (bs : List ℕ) (k : ℕ) → k ≡ before bs + 1 → text_of (take k bs) ≡ take (before bs) bs
text_cut [] zero e = absurd (omega (arith, e))
text_cut [] (suc j) e = refl
text_cut (b ∷ bs) zero e = absurd (omega (arith, e))
text_cut (b ∷ bs) (suc j) e =
    (elim (eqb b 10) as (λ t. suc j ≡ cond (not t) (1 + before bs) 0 + 1 → take (cond (not t) (1 + before (take j bs)) 0) (b ∷ take j bs) ≡ take (cond (not t) (1 + before bs) 0) (b ∷ bs)) [
      | true ↦ λ e. refl
      | false ↦ λ e. one_more (before (take j bs)) b (take j bs) ∙ ap (λ (xs : List ℕ). b ∷ xs) (text_cut bs j (omega (arith, e))) ∙ sym (one_more (before bs) b bs)
    ]) e

pub first_is : (text front rest : List ℕ) → 1 ≤ length text → front ≡ take (before text) text → rest ≡ drop (before text + 1) text → IsFirst text front rest
first_is text front rest some front_is rest_is = record {
  line = take (before text + 1) text;
  some = omega (arith, length-take (before text + 1) text);
  joined = sym (take-append-drop (before text + 1) text) ∙ ap (λ (xs : List ℕ). take (before text + 1) text ++ xs) (sym rest_is);
  lines = cut_line text (before text + 1) refl some ∙ ap (λ (xs : List ℕ). take (before text + 1) text ∷ split_lines xs) (sym rest_is);
  front_is = front_is ∙ sym (text_cut text (before text + 1) refl);
}

drop_one : (n : ℕ) (xs : List ℕ) (x : ℕ) (after : List ℕ) → drop n xs ≡ x ∷ after → after ≡ drop (suc n) xs
drop_one zero xs x after e = sym (ap (drop 1) e)
drop_one (suc n) [] x after e = absurd cc
drop_one (suc n) (y ∷ xs) x after e = drop_one n xs x after e

nothing : (xs : List ℕ) → length xs ≡ 0 → xs ≡ []
nothing [] e = refl
nothing (x ∷ xs) e = absurd (omega (arith, e))

-- a text up to its first newline, and from it on
pub first_ended : (text front rest after : List ℕ) (count byte : ℕ) → 1 ≤ length text → count ≡ before text → front ≡ take count text → rest ≡ drop count text → rest ≡ byte ∷ after → IsFirst text front after
first_ended text front rest after count byte some is front_is rest_is e =
    let next : suc count ≡ before text + 1 = omega (arith, is) in
    first_is text front after some (front_is ∙ ap (λ (n : ℕ). take n text) is) (drop_one count text byte after (sym rest_is ∙ e) ∙ ap (λ (n : ℕ). drop n text) next)

-- a text without a newline
pub first_unended : (text front rest : List ℕ) (count : ℕ) → 1 ≤ length text → count ≡ before text → front ≡ take count text → length rest + count ≡ length text → length rest ≡ 0 → IsFirst text front rest
first_unended text front rest count some is front_is len none =
    first_is text front rest some (front_is ∙ ap (λ (n : ℕ). take n text) is) (nothing rest none ∙ sym (nothing (drop (before text + 1) text) (omega (arith, length-drop (before text + 1) text, is, len, none))))

-- ---- a text, and one that it begins

abbrev is_inside : ℕ → Bool
is_inside byte = not (is_newline byte)

pub within : (a b : List ℕ) → before a < length a → before (a ++ b) ≡ before a
within a b lt = let ne : eqb (before a) (length a) ≡ false = grind (arith, nat_tests) in prefix_len-append is_inside a b ∙ rw ne refl

pub beyond : (a b : List ℕ) → length a ≤ before a → length a ≤ before (a ++ b)
beyond a b le =
    let all : eqb (before a) (length a) ≡ true = grind (arith, nat_tests, prefix_len-le-length {X = ℕ}) in
    let e : before (a ++ b) ≡ length a + before b = prefix_len-append is_inside a b ∙ rw all refl in
    omega (arith, e)
