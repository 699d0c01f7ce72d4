-- Digits at the front of a text, and what they represent.
use Rattle.std.proofs.Common.{◌≡◌, ℕ, zero, suc, ◌+◌, ◌-◌, ◌*◌, ◌^◌, ◌<◌, ◌≤◌, true, false, cond, List, [], ◌∷◌, length, take, get_or, arith, ap, refl, subst, ◌∙◌, length-take-le}
use Rattle.std.proofs.lemmas.Bool.Decides.{nat_tests}
use Rattle.std.specs.List.{prefix_len}
use Rattle.std.specs.Char.{is_ascii_digit, digit_value}
use Rattle.std.specs.Str.Parse.{digits_value, AllDigits}
use Rattle.std.proofs.Math.Nat.{pow-le-pow_right}
use Rattle.std.proofs.lemmas.List.Sums.{prefix_len-le-length}
use Rattle.std.proofs.lemmas.Int.Digits.{digits_value_more, digits_value-lt}

is_digit : (c : ℕ) → digit_value c < 10 → (48 ≤ c) × (c ≤ 57) × (digit_value c ≡ c - 48)
is_digit c h = grind (arith, nat_tests)

value_small : (c : ℕ) → is_ascii_digit c ≡ true → digit_value c < 10
value_small c h = grind (arith, nat_tests)

digits_at : (bs : List ℕ) (i : ℕ) → AllDigits 10 bs → i < length bs → digit_value (get_or bs i 0) < 10
digits_at [] i h lt = absurd (omega arith)
digits_at (b ∷ bs) zero h lt = h.0
digits_at (b ∷ bs) (suc i) h lt = digits_at bs i h.1 (omega arith)

digits_front : (bs : List ℕ) (i : ℕ) → AllDigits 10 bs → AllDigits 10 (take i bs)
digits_front bs zero h = tt
digits_front [] (suc i) h = tt
digits_front (b ∷ bs) (suc i) h = (h.0, digits_front bs i h.1)

-- the digits that prefix_len counts are digits
pub front_is_digits : (bs : List ℕ) → AllDigits 10 (take (prefix_len is_ascii_digit bs) bs)
front_is_digits [] = tt
front_is_digits (b ∷ bs) =
    elim (is_ascii_digit b) as (λ t. is_ascii_digit b ≡ t → AllDigits 10 (take (cond t (1 + prefix_len is_ascii_digit bs) 0) (b ∷ bs))) [
      | true ↦ λ e. let more : suc (prefix_len is_ascii_digit bs) ≡ 1 + prefix_len is_ascii_digit bs = omega arith in
          let P : ℕ → Type 0 = λ n. AllDigits 10 (take n (b ∷ bs)) in subst P more (value_small b e, front_is_digits bs)
      | false ↦ λ e. tt
    ] refl

below_ten_digits : (n i : ℕ) → i ≤ 10 → n < 10 ^ i → n < 10000000000
below_ten_digits n i le lt =
    let positive : 0 < 10 = omega arith in
    omega (arith, pow-le-pow_right positive le)

-- one digit more
pub record NextDigit (value i digit : ℕ) : Type 0 where
  pub low : 48 ≤ digit
  pub high : digit ≤ 57
  pub fits : value < 10000000000

pub next_digit : (bs : List ℕ) (i : ℕ) → AllDigits 10 bs → length bs ≤ 10 → i < length bs
    → NextDigit (digits_value 10 (take i bs)) i (get_or bs i 0) × (digits_value 10 (take (i + 1) bs) ≡ digits_value 10 (take i bs) * 10 + (get_or bs i 0 - 48))
next_digit bs i h few lt =
    let digit = is_digit (get_or bs i 0) (digits_at bs i h lt) in
    let long : length (take i bs) ≡ i = length-take-le i bs (omega arith) in
    let below : digits_value 10 (take i bs) < 10 ^ i = subst (λ (k : ℕ). digits_value 10 (take i bs) < 10 ^ k) long (digits_value-lt 10 (take i bs) (digits_front bs i h)) in
    (record { low = digit.0; high = digit.1; fits = below_ten_digits _ i (omega arith) below }, digits_value_more 10 bs i lt ∙ ap (λ (d : ℕ). digits_value 10 (take i bs) * 10 + d) digit.2)

pub front_fits : (bs : List ℕ) → prefix_len is_ascii_digit bs ≤ length bs
front_fits bs = prefix_len-le-length is_ascii_digit bs
