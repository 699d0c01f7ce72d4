-- Words: how a text falls apart into them, and what single ones say.
use Rattle.std.proofs.Common.{◌≡◌, ℕ, zero, suc, ◌+◌, ◌/◌, ◌%◌, ◌<◌, ◌≤◌, ◌^◌, Bool, true, false, not, ◌&&◌, ◌||◌, cond, List, [], ◌∷◌, ◌++◌, length, get_or, take, drop, Some, None, Result, Ok, Err, codes, decimal, ltb, ◌==◌, nat_lt, refl, sym, ap, ◌∙◌, subst, arith, lit<, lit≤, slice_index, lt_of_lt_of_le, pow_mono, map, append-nil, append_assoc, drop_of_length-le}
use Rattle.std.specs.List.{AllByRecursion, slice_split, join_with_byte, list_all, prefix_len, flat_map}
use Rattle.std.specs.Result.{OkIff, result_ok}
use Rattle.std.specs.Str.{bytes_eq, all_ascii_digits, IsUtf8, IsAscii}
use Rattle.std.specs.Char.{is_ascii_digit}
use Rattle.std.specs.Str.Parse.{digits_value, ParsesUnsigned}
use Rattle.std.proofs.lemmas.Bool.{and_parts, and_from, or_left, or_right, ltb-true, lt-ltb, agree_below_at}
use Rattle.std.proofs.lemmas.Bool.Decides.{nat_tests}
use Rattle.std.proofs.lemmas.Str.{IsUtf8-from_ascii}
use Rattle.std.proofs.lemmas.Str.Ascii.{IsAscii-nil, IsAscii-cons}
use Rattle.std.proofs.lemmas.Fmt.{digits_decimal, digits_value-decimal, decimal_nonempty, first_decimal, decimal_digit, decimal-digits_value}
use Rattle.std.proofs.lemmas.Str.Parse.{IsNumeralModel, numerals_by_value, tells_all_ascii_digits, parse_digits}
use Rattle.std.proofs.lemmas.List.Splits.{length-slice_split}
use Rattle.hex.specs.Hex.{encode_with, encode_lower, lower_digits, IsBytes}
use Rattle.sal_journal.specs.Words.{is_plain, number_of}

-- ---- lists of bytes above one

abbrev pub Above : ℕ → List ℕ → Type 0
Above n = AllByRecursion (λ b. n < b)

pub above_literal : (n : ℕ) (word : List ℕ) → list_all (λ b. ltb n b) word ≡ true → Above n word
above_literal n [] h = tt
above_literal n (b ∷ word) h = let both = and_parts (ltb n b) _ h in (ltb-true n b both.0, above_literal n word both.1)

pub above_append : (n : ℕ) (a b : List ℕ) → Above n a → Above n b → Above n (a ++ b)
above_append n [] b h k = k
above_append n (x ∷ a) b h k = (h.0, above_append n a b h.1 k)

pub above_less : (m n : ℕ) (a : List ℕ) → m ≤ n → Above n a → Above m a
above_less m n [] le h = tt
above_less m n (x ∷ a) le h = (omega (arith, le, h.0), above_less m n a le h.1)

-- ---- parts

differs : (at b : ℕ) → at < b → (b == at) ≡ false
differs at b lt = grind (arith, nat_tests)

same : (at : ℕ) → (at == at) ≡ true
same at = grind (arith, nat_tests)

pub one_part : (at : ℕ) (part : List ℕ) → Above at part → slice_split (λ b. b == at) part ≡ part ∷ []
one_part at [] h = refl
one_part at (b ∷ part) h = rw (differs at b h.0, one_part at part h.1) refl

pub first_part : (at : ℕ) (part rest : List ℕ) → Above at part → slice_split (λ b. b == at) (part ++ at ∷ rest) ≡ part ∷ slice_split (λ b. b == at) rest
first_part at [] rest h = rw (same at) refl
first_part at (b ∷ part) rest h = rw (differs at b h.0, first_part at part rest h.1) refl

pub parts_back : (at : ℕ) (part : List ℕ) (parts : List (List ℕ)) → AllByRecursion (Above at) (part ∷ parts) → slice_split (λ b. b == at) (join_with_byte at (part ∷ parts)) ≡ part ∷ parts
parts_back at part [] h = one_part at part h.0
parts_back at part (next ∷ parts) h = first_part at part (join_with_byte at (next ∷ parts)) h.0 ∙ ap (λ (ps : List (List ℕ)). part ∷ ps) (parts_back at next parts h.1)

pub words_back : (at : ℕ) (words : List (List ℕ)) → 0 < length words → AllByRecursion (Above at) words → slice_split (λ b. b == at) (join_with_byte at words) ≡ words
words_back at [] some h = absurd (omega (arith, some))
words_back at (word ∷ words) some h = parts_back at word words h

pub all_less : (words : List (List ℕ)) → AllByRecursion (Above 32) words → AllByRecursion (Above 10) words
all_less [] h = tt
all_less (word ∷ words) h = (above_less 10 32 word (lit≤ tt) h.0, all_less words h.1)

pub joined_above : (n at : ℕ) (parts : List (List ℕ)) → n < at → AllByRecursion (Above n) parts → Above n (join_with_byte at parts)
joined_above n at [] lt h = tt
joined_above n at (part ∷ []) lt h = h.0
joined_above n at (part ∷ next ∷ parts) lt h = above_append n part (at ∷ join_with_byte at (next ∷ parts)) h.0 (lt, joined_above n at (next ∷ parts) lt h.1)

-- words with a space before each
pub spaces_before : {X : Type 0} (f : X → List ℕ) (first : List ℕ) (xs : List X) → join_with_byte 32 (first ∷ map f xs) ≡ first ++ flat_map (λ x. 32 ∷ f x) xs
spaces_before f first [] = sym (append-nil first)
spaces_before f first (x ∷ xs) = ap (λ (ws : List ℕ). first ++ 32 ∷ ws) (spaces_before f (f x) xs)

pub spaces_after : {X : Type 0} (f : X → List ℕ) (a b : List ℕ) (xs : List X) → join_with_byte 32 (a ∷ b ∷ map f xs) ≡ (a ++ 32 ∷ b) ++ flat_map (λ x. 32 ∷ f x) xs
spaces_after f a b xs = ap (λ (ws : List ℕ). a ++ 32 ∷ ws) (spaces_before f b xs) ∙ sym (append_assoc a (32 ∷ b) (flat_map (λ x. 32 ∷ f x) xs))

-- the words that a loop puts together
pub joined_all : {B : Type 0} (f : B → List ℕ) (words others : List B) (first : B) (text start : List ℕ) (i : ℕ) → words ≡ first ∷ others → start ≡ f first → length others ≤ i
    → text ++ flat_map (λ w. 32 ∷ f w) (drop i others) ≡ start ++ flat_map (λ w. 32 ∷ f w) others → text ≡ join_with_byte 32 (map f words)
joined_all f words others first text start i is begins ends kept =
    sym (append-nil text) ∙ ap (λ (ws : List ℕ). text ++ ws) (sym (ap (flat_map (λ w. 32 ∷ f w)) (drop_of_length-le others ends))) ∙ kept
    ∙ ap (λ (ws : List ℕ). ws ++ flat_map (λ w. 32 ∷ f w) others) begins ∙ sym (spaces_before f (f first) others) ∙ ap (λ ws. join_with_byte 32 (map f ws)) (sym is)

-- two words, and those that a loop adds
pub spaced_all : {B : Type 0} (f : B → List ℕ) (a b : List ℕ) (xs : List B) (text start : List ℕ) (i : ℕ) → start ≡ join_with_byte 32 (a ∷ b ∷ []) → length xs ≤ i
    → text ++ flat_map (λ x. 32 ∷ f x) (drop i xs) ≡ start ++ flat_map (λ x. 32 ∷ f x) xs → text ≡ join_with_byte 32 (a ∷ b ∷ map f xs)
spaced_all f a b xs text start i begins ends kept =
    sym (append-nil text) ∙ ap (λ (ws : List ℕ). text ++ ws) (sym (ap (flat_map (λ x. 32 ∷ f x)) (drop_of_length-le xs ends))) ∙ kept
    ∙ ap (λ (ws : List ℕ). ws ++ flat_map (λ x. 32 ∷ f x) xs) begins ∙ sym (spaces_after f a b xs)

-- there is a first part
pub some_part : (at : ℕ) (text : List ℕ) → (length (slice_split (λ b. b == at) text) == 0) ≡ false
some_part at text = let some = length-slice_split (λ b. b == at) text in grind (arith, nat_tests)

-- ---- numbers

digit_ascii : (d : ℕ) → is_ascii_digit d ≡ true → d < 128
digit_ascii d h = grind (arith, nat_tests)

none_first : (n : ℕ) → (0 == suc n) ≡ false
none_first n = grind (arith, nat_tests)

pub some_first : (n : ℕ) → (suc n == 0) ≡ true → ⊥
some_first n h = grind (arith, nat_tests)

one_longer : (m n : ℕ) → (1 + m == suc n) ≡ (m == n)
one_longer m n = grind (arith, nat_tests)

not_below : (v most : ℕ) → (v < most → ⊥) → nat_lt v most ≡ false
not_below v most above = grind (arith, nat_tests)

own : IsNumeralModel (λ ds. all_ascii_digits ds ≡ true) (digits_value 10)
own = numerals_by_value _ tells_all_ascii_digits

digits_above : (ds : List ℕ) → all_ascii_digits ds ≡ true → Above 32 ds
digits_above [] h = tt
digits_above (d ∷ ds) h = let both = and_parts (is_ascii_digit d) _ h in (let one = both.0 in grind (arith, nat_tests), digits_above ds both.1)

pub decimal_above : (n : ℕ) → n < 2 ^ 64 → Above 32 (decimal n)
decimal_above n fits = digits_above (decimal n) (digits_decimal own n fits)

not_zero : (first : ℕ) → 48 < first → not (first == 48) ≡ true
not_zero first lt = grind (arith, nat_tests)

zero_alone : (n : ℕ) → n < 2 ^ 64 → (not (get_or (decimal n) 0 0 == 48) || length (decimal n) == 1) ≡ true
zero_alone zero fits = or_right _ _ (ap (λ ds. length ds == 1) (decimal_digit 0 (lit< tt)))
zero_alone (suc n) fits = or_left _ _ (not_zero (get_or (decimal (suc n)) 0 0) (first_decimal (suc n) (omega arith) fits))

pub decimal_digits : (n : ℕ) → n < 2 ^ 64 → all_ascii_digits (decimal n) ≡ true
decimal_digits n fits = digits_decimal own n fits

pub decimal_some : (n : ℕ) → n < 2 ^ 64 → 0 < length (decimal n)
decimal_some n fits = decimal_nonempty n fits

pub not_none : (ds : List ℕ) → 0 < length ds → bytes_eq ds [] ≡ false
not_none [] some = absurd (omega (arith, some))
not_none (d ∷ ds) some = refl

-- digits don't begin with a minus
pub no_minus : (ds : List ℕ) → all_ascii_digits ds ≡ true → 0 < length ds → (bytes_eq ds (codes "-") ≡ false) × (bytes_eq (take 1 ds) (codes "-") ≡ false)
no_minus [] h some = absurd (omega (arith, some))
no_minus (d ∷ ds) h some =
    let one = (and_parts (is_ascii_digit d) _ h).0 in
    let other : (d == 45) ≡ false = grind (arith, nat_tests) in
    rw other (refl, refl)

decimal_plain : (n : ℕ) → n < 2 ^ 64 → is_plain (decimal n) ≡ true
decimal_plain n fits = and_from _ _ (and_from _ _ (digits_decimal own n fits) (lt-ltb 0 _ (decimal_nonempty n fits))) (zero_alone n fits)

-- a number is read again
pub number_back : (k n : ℕ) → n < 2 ^ k → n < 2 ^ 64 → number_of k (decimal n) ≡ Some n
unfolding number_of
number_back k n small fits =
    let value = digits_value-decimal own n fits in
    rw (decimal_plain n fits, value, lt-ltb n (2 ^ k) small) refl

pub record Number (k n : ℕ) (word : List ℕ) : Type 0 where
  pub fits : n < 2 ^ k
  pub word_is : word ≡ decimal n

some_of : (b : Bool) (v n : ℕ) → (cond b (Some v) None) ≡ Some n → (b ≡ true) × (v ≡ n)
some_of true v n e = (refl, cc)
some_of false v n e = absurd cc

fits_wide : (v k : ℕ) → k ≤ 64 → v < 2 ^ k → v < 2 ^ 64
fits_wide v k le lt = lt_of_lt_of_le lt (pow_mono le)

alone : (word : List ℕ) → (not (get_or word 0 0 == 48) || length word == 1) ≡ true → get_or word 0 0 ≡ 48 → length word ≡ 1
alone word h first = grind (arith, nat_tests)

-- a word that says a number is what is written of it
pub number_said : (k n : ℕ) (word : List ℕ) → k ≤ 64 → number_of k word ≡ Some n → Number k n word
unfolding number_of
number_said k n word le e =
    let s = some_of (is_plain word && nat_lt (digits_value 10 word) (2 ^ k)) (digits_value 10 word) n e in
    let both = and_parts (is_plain word) _ s.0 in
    let plain = and_parts _ _ both.0 in
    let digits = and_parts _ _ plain.0 in
    let below : digits_value 10 word < 2 ^ k = ltb-true _ _ both.1 in
    let wide : digits_value 10 word < 2 ^ 64 = fits_wide (digits_value 10 word) k le below in
    record {
      fits = subst (λ (v : ℕ). v < 2 ^ k) s.1 below;
      word_is = sym (decimal-digits_value own word digits.0 (ltb-true _ _ digits.1) (alone word plain.1) wide) ∙ ap decimal s.1;
    }

parsed_as : {E : Type 0} (k : ℕ) (word : List ℕ) (r : Result ℕ E) → is_plain word ≡ true → OkIff r ((0 < length word) × (digits_value 10 word < 2 ^ k)) (digits_value 10 word) → result_ok r ≡ number_of k word
unfolding number_of
parsed_as k word (Ok x) plain h = rw (plain, lt-ltb _ _ h.0.1) (ap Some h.1)
parsed_as k word (Err e) plain h =
    let some : 0 < length word = ltb-true _ _ (and_parts _ _ (and_parts _ _ plain).0).1 in
    let wide : (nat_lt (digits_value 10 word) (2 ^ k)) ≡ false = not_below (digits_value 10 word) (2 ^ k) (λ lt. h (some, lt)) in
    rw (plain, wide) refl

-- what `parse` says of such a word
pub parsed : {E : Type 0} (k : ℕ) (word : List ℕ) (r : Result ℕ E) → is_plain word ≡ true → ParsesUnsigned k 10 word r → result_ok r ≡ number_of k word
parsed k word r plain h = parsed_as k word r plain (parse_digits own k word r h (and_parts _ _ (and_parts _ _ plain).0).0)

pub not_number : (k : ℕ) (word : List ℕ) → is_plain word ≡ false → number_of k word ≡ None
unfolding number_of
not_number k word h = rw h refl

digits_ascii : (ds : List ℕ) → all_ascii_digits ds ≡ true → IsAscii ds
digits_ascii [] h = IsAscii-nil
digits_ascii (d ∷ ds) h = let both = and_parts (is_ascii_digit d) _ h in IsAscii-cons d ds (digit_ascii d both.0) (digits_ascii ds both.1)

pub plain_utf8 : (word : List ℕ) → is_plain word ≡ true → IsUtf8 word
plain_utf8 word plain = IsUtf8-from_ascii word (digits_ascii word (and_parts _ _ (and_parts _ _ plain).0).0)

-- digits in front as long as the word
pub digits_alone : (ds : List ℕ) → (prefix_len is_ascii_digit ds == length ds) ≡ all_ascii_digits ds
digits_alone [] = refl
digits_alone (d ∷ ds) =
    elim (is_ascii_digit d) as (λ t. (cond t (1 + prefix_len is_ascii_digit ds) 0 == suc (length ds)) ≡ (t && all_ascii_digits ds)) [
      | true ↦ one_longer (prefix_len is_ascii_digit ds) (length ds) ∙ digits_alone ds
      | false ↦ none_first (length ds)
    ]

pub parsed_word : {E : Type 0} (k : ℕ) (word text : List ℕ) (r : Result ℕ E) → text ≡ word → is_plain word ≡ true → ParsesUnsigned k 10 text r → result_ok r ≡ number_of k word
parsed_word k word text r is plain h = parsed k word r plain (subst (λ (t : List ℕ). ParsesUnsigned k 10 t r) is h)

-- ---- digits of bytes

digit_above : (d : ℕ) → d < 16 → 32 < slice_index lower_digits d
digit_above d lt = ltb-true 32 _ (agree_below_at (λ d. ltb 32 (slice_index lower_digits d)) (λ d. true) 16 d refl lt)

pub hex_above : (bytes : List ℕ) → IsBytes bytes → Above 32 (encode_lower bytes)
unfolding encode_with
hex_above [] h = tt
hex_above (b ∷ bytes) h =
    let fits : b < 256 = h 0 in
    (digit_above (b / 16) (omega arith), (digit_above (b % 16) (omega arith), hex_above bytes (λ k. h (suc k))))
