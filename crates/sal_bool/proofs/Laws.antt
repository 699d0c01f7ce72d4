-- Reading what was written gives the bits.
use Rattle.std.proofs.Common.{◌≡◌, ℕ, suc, zero, ◌+◌, ◌-◌, ◌*◌, ◌/◌, ◌%◌, ◌^◌, ◌≤◌, ◌<◌, ◌∙◌, List, [], ◌∷◌, ◌++◌, Bool, true, false, map, refl, sym, ap, arith, zero-add, add-zero, lit≤, subst, inl, inr}
use Rattle.std.proofs.lemmas.Bool.{lt-ltb, le-ltb, le-leb, lt-leb, cases_lt}
use Rattle.std.proofs.lemmas.Nat.{pow_pos, pow-add, mod-pow-add, shl-shr, shr-shr}
use Rattle.std.proofs.Math.Nat.{pow-suc, mul-le-mul_left, mod-eq_of_lt, mul-lt-mul_of_pos_right}
use Rattle.sal_bool.proofs.Settling.{reaches_more}
use Rattle.sal_bool.specs.Bits.{bits_of, low_bits, split_of, Interval, IsProper, first, start, narrow, double, widen, next, bit_at, read_all}
use Rattle.sal_bool.specs.Written.{steps, be_bytes, written, written_bytes, AreFit, IsBelow}

-- each is 0 or 1
abbrev pub AreBits : List ℕ → Type 0
AreBits [] = Unit {0}
AreBits (b ∷ bits) = (b < 2) × AreBits bits

-- the number lies in the interval
pub record Contains (bits : List ℕ) (i : Interval) : Type 0 where
  pub low : i.low ≤ first (8 + i.k) bits
  pub high : first (8 + i.k) bits < i.low + i.range

-- one more bit
first_more : (m : ℕ) (bits : List ℕ) → AreBits bits → (b : ℕ) × (b < 2) × (first (suc m) bits ≡ 2 * first m bits + b)
first_more zero [] are = (0, omega arith, refl)
first_more zero (b ∷ bits) are = (b, are.0, omega arith)
first_more (suc m) [] are = (0, omega arith, refl)
first_more (suc m) (b ∷ bits) are =
    let h = first_more m bits are.1 in
    let p : b * 2 ^ suc m ≡ 2 * (b * 2 ^ m) = rw (pow-suc 2 m) (omega arith) in
    (h.0, h.1, omega (arith, h.2, p))

add_suc_one : (k : ℕ) → 8 + (k + 1) ≡ suc (8 + k)
add_suc_one k = omega arith

contains_double : (bits : List ℕ) (i : Interval) → AreBits bits → Contains bits (double i) → Contains bits i
contains_double bits i are c =
    let h = first_more (8 + i.k) bits are in
    let e : first (8 + (i.k + 1)) bits ≡ 2 * first (8 + i.k) bits + h.0 = rw (add_suc_one i.k) h.2 in
    let b : h.0 < 2 = h.1 in
    let low : 2 * i.low ≤ first (8 + (i.k + 1)) bits = c.low in
    let high : first (8 + (i.k + 1)) bits < 2 * i.low + 2 * i.range = c.high in
    record { low = omega arith; high = omega arith }

contains_widen : (n : ℕ) (bits : List ℕ) (i : Interval) → AreBits bits → Contains bits (widen n i) → Contains bits i
unfolding widen
contains_widen zero bits i are c = c
contains_widen (suc n) bits i are c =
    elim (cases_lt i.range 128) [
      | inl low ↦
          let c' : Contains bits (widen n (double i)) = rw (lt-ltb i.range 128 low) at c in
          contains_double bits i are (contains_widen n bits (double i) are c')
      | inr high ↦
          let c' : Contains bits (widen n i) = rw (le-ltb i.range 128 high) at c in
          contains_widen n bits i are c'
    ]

pub split_small : (range p : ℕ) → 2 ≤ range → p < 256 → split_of range p < range
split_small range p two fits = grind (arith, mul-le-mul_left (range - 1) fits)

pub contains_narrow : (bytes : List ℕ) (i : Interval) (p : ℕ) (bit : Bool) → IsProper i → p < 256
    → Contains (bits_of bytes) (narrow i p bit) → (bit_at bytes i p ≡ bit) × Contains (bits_of bytes) i
contains_narrow bytes i p true proper fits c =
    let s = split_small i.range p (omega arith) fits in
    (le-leb _ _ c.low, record { low = omega arith; high = omega arith })
contains_narrow bytes i p false proper fits c =
    let s = split_small i.range p (omega arith) fits in
    (lt-leb _ _ c.high, record { low = omega arith; high = omega arith })

-- after n doublings the range is at least 128, and at most 255
widen_proper : (n : ℕ) (i : Interval) → i.range ≤ 255 → 128 ≤ i.range * 2 ^ n → IsProper (widen n i)
unfolding widen
widen_proper zero i high reach = record { low = omega arith; high = high }
widen_proper (suc n) i high reach =
    elim (cases_lt i.range 128) [
      | inl low ↦
          let r : 128 ≤ i.range * (2 ^ n * 2) = rw (pow-suc 2 n) at reach in
          let reach' : 128 ≤ (2 * i.range) * 2 ^ n = omega arith in
          let h : IsProper (widen n (double i)) = widen_proper n (double i) (omega arith) reach' in
          rw (lt-ltb i.range 128 low) h
      | inr le ↦
          let h : IsProper (widen n i) = widen_proper n i high (reaches_more n i.range le) in
          rw (le-ltb i.range 128 le) h
    ]

pub next_proper : (i : Interval) (p : ℕ) (bit : Bool) → IsProper i → p < 256 → IsProper (next i p bit)
unfolding next
next_proper i p true proper fits =
    let s = split_small i.range p (omega arith) fits in
    widen_proper 7 (narrow i p true) (omega arith) (omega arith)
next_proper i p false proper fits =
    let s = split_small i.range p (omega arith) fits in
    widen_proper 7 (narrow i p false) (omega arith) (omega arith)

are_low : (n x : ℕ) → AreBits (low_bits n x)
are_low zero x = tt
are_low (suc n) x = (omega arith, are_low n x)

are_append : (xs ys : List ℕ) → AreBits xs → AreBits ys → AreBits (xs ++ ys)
are_append [] ys a b = b
are_append (x ∷ xs) ys a b = (a.0, are_append xs ys a.1 b)

pub are_bits : (bytes : List ℕ) → AreBits (bits_of bytes)
are_bits [] = tt
are_bits (x ∷ xs) = are_append (low_bits 8 x) (bits_of xs) (are_low 8 x) (are_bits xs)

pub contains_next : (bytes : List ℕ) (i : Interval) (p : ℕ) (bit : Bool) → Contains (bits_of bytes) (next i p bit) → Contains (bits_of bytes) (narrow i p bit)
unfolding next
contains_next bytes i p bit c = contains_widen 7 (bits_of bytes) (narrow i p bit) (are_bits bytes) c

-- a number in the last interval gives the bits that led there
pub reads_back : (bytes : List ℕ) (xs : List (ℕ × Bool)) (i : Interval) → IsProper i → AreFit xs → Contains (bits_of bytes) (steps i xs)
    → (read_all bytes i (map (λ x. x.0) xs) ≡ map (λ x. x.1) xs) × Contains (bits_of bytes) i
reads_back bytes [] i proper fit c = (refl, c)
reads_back bytes (x ∷ xs) i proper fit c =
    let later = reads_back bytes xs (next i x.0 x.1) (next_proper i x.0 x.1 proper fit.0) fit.1 c in
    let narrowed : Contains (bits_of bytes) (narrow i x.0 x.1) = contains_next bytes i x.0 x.1 later.1 in
    let here = contains_narrow bytes i x.0 x.1 proper fit.0 narrowed in
    (rw here.0 (ap (λ bs. x.1 ∷ bs) later.0), here.1)

suc_one : (n : ℕ) → suc n ≡ 1 + n
suc_one n = omega arith

mod_one : (x : ℕ) → x % 1 ≡ 0
mod_one x = omega arith

div_one : (x : ℕ) → x / 1 ≡ x
div_one x = omega arith

pub first_low : (n m x : ℕ) (ys : List ℕ) → first (n + m) (low_bits n x ++ ys) ≡ (x % 2 ^ n) * 2 ^ m + first m ys
first_low zero m x ys = let z : x % 2 ^ 0 ≡ 0 = mod_one x in rw (zero-add, z) (omega arith)
first_low (suc n) m x ys =
    let e : suc n + m ≡ suc (n + m) = omega arith in
    let ih = first_low n m x ys in
    let bit = (x / 2 ^ n) % 2 in
    let p : bit * 2 ^ (n + m) ≡ bit * 2 ^ n * 2 ^ m = rw (pow-add 2 n m) (omega arith) in
    let q : x % 2 ^ (1 + n) ≡ bit * 2 ^ n + x % 2 ^ n = mod-pow-add x 1 n in
    let q' : x % 2 ^ suc n ≡ bit * 2 ^ n + x % 2 ^ n = ap (λ k. x % 2 ^ k) (suc_one n) ∙ q in
    rw (e, q') (omega (arith, ih, p))

pub pow_256 : (n : ℕ) → 256 ^ n ≡ 2 ^ (8 * n)
pow_256 zero = refl
pow_256 (suc n) =
    let e : 8 * suc n ≡ 8 + 8 * n = omega arith in
    rw (e, pow-add 2 8 (8 * n), pow-suc 256 n, pow_256 n) (omega arith)

byte_place : (n x : ℕ) → (x / 256 ^ n % 256) % 256 ≡ x / 256 ^ n % 256 → first (8 * n) (bits_of (be_bytes n x)) ≡ x % 256 ^ n
    → (x / 256 ^ n % 256) % 256 * 2 ^ (8 * n) + first (8 * n) (bits_of (be_bytes n x)) ≡ (x / 2 ^ (8 * n) % 256) * 2 ^ (8 * n) + x % 2 ^ (8 * n)
byte_place n x twice ih = rw (twice, ih, pow_256 n) refl

first_be : (n x : ℕ) → first (8 * n) (bits_of (be_bytes n x)) ≡ x % 256 ^ n
first_be zero x = sym (mod_one x)
first_be (suc n) x =
    let e : 8 * suc n ≡ 8 + 8 * n = omega arith in
    let y = (x / 256 ^ n) % 256 in
    let ih = first_be n x in
    let here : first (8 + 8 * n) (bits_of (be_bytes (suc n) x)) ≡ (y % 256) * 2 ^ (8 * n) + first (8 * n) (bits_of (be_bytes n x)) = first_low 8 (8 * n) y (bits_of (be_bytes n x)) in
    let twice : y % 256 ≡ y = mod-eq_of_lt (omega arith) in
    let parts : x % 2 ^ (8 + 8 * n) ≡ (x / 2 ^ (8 * n) % 256) * 2 ^ (8 * n) + x % 2 ^ (8 * n) = mod-pow-add x 8 (8 * n) in
    let whole : x % 256 ^ suc n ≡ x % 2 ^ (8 + 8 * n) = ap (λ k. x % k) (pow_256 (suc n) ∙ ap (λ k. 2 ^ k) e) in
    ap (λ k. first k (bits_of (be_bytes (suc n) x))) e ∙ here ∙ byte_place n x twice ih ∙ sym parts ∙ sym whole

-- the first m bits of a longer front
first_front : (d m : ℕ) (bits : List ℕ) → AreBits bits → first (m + d) bits / 2 ^ d ≡ first m bits
first_front zero m bits are = ap (λ k. first k bits / 1) (add-zero m) ∙ div_one (first m bits)
first_front (suc d) m bits are =
    let h = first_more (m + d) bits are in
    let e : m + suc d ≡ suc (m + d) = omega arith in
    let half : first (suc (m + d)) bits / 2 ≡ first (m + d) bits = grind (arith, h.1, h.2) in
    let p : 2 ^ suc d ≡ 2 ^ (1 + d) = ap (λ k. 2 ^ k) (suc_one d) in
    rw (e, p) (sym (shr-shr (first (suc (m + d)) bits) 1 d) ∙ (ap (λ k. k / 2 ^ d) half ∙ first_front d m bits are))

-- the bytes of an interval spell its low end
pub first_written : (i : Interval) → i.low < 2 ^ (8 + i.k) → first (8 + i.k) (bits_of (written i)) ≡ i.low
unfolding written
first_written i fits =
    let n = written_bytes i in
    let d = 8 * n - (8 + i.k) in
    let w : List ℕ = be_bytes n (i.low * 2 ^ d) in
    let e : (8 + i.k) + d ≡ 8 * n = omega arith in
    let whole : 2 ^ (8 + i.k) * 2 ^ d ≡ 256 ^ n = sym (pow-add 2 (8 + i.k) d) ∙ (ap (λ k. 2 ^ k) e ∙ sym (pow_256 n)) in
    let small : i.low * 2 ^ d < 256 ^ n = subst (λ (t : ℕ). i.low * 2 ^ d < t) whole (mul-lt-mul_of_pos_right fits (pow_pos d)) in
    let a = first_front d (8 + i.k) (bits_of w) (are_bits w) in
    let b : first ((8 + i.k) + d) (bits_of w) ≡ i.low * 2 ^ d = ap (λ k. first k (bits_of w)) e ∙ first_be n (i.low * 2 ^ d) ∙ mod-eq_of_lt small in
    sym a ∙ ap (λ k. k / 2 ^ d) b ∙ shl-shr i.low d

-- the low end of an interval that the steps come to fits its 8 + k bits
plus_one : (k : ℕ) → k + 1 ≡ suc k
plus_one k = omega arith

pow-suc' : (k : ℕ) → 2 ^ suc k ≡ 2 * 2 ^ k
pow-suc' k = rw (pow-suc 2 k) (omega arith)

below_double : (i : Interval) → IsBelow i → IsBelow (double i)
below_double i b =
    let p : 2 ^ (i.k + 1) ≡ 2 * 2 ^ i.k = ap (λ k. 2 ^ k) (plus_one i.k) ∙ pow-suc' i.k in
    let t = b.top in
    record { top = omega (arith, p, t) }

pub below_widen : (n : ℕ) (i : Interval) → IsBelow i → IsBelow (widen n i)
unfolding widen
below_widen zero i b = b
below_widen (suc n) i b =
    elim (cases_lt i.range 128) [
      | inl low ↦ rw (lt-ltb i.range 128 low) (below_widen n (double i) (below_double i b))
      | inr le ↦ rw (le-ltb i.range 128 le) (below_widen n i b)
    ]

pub below_next : (i : Interval) (p : ℕ) (bit : Bool) → IsProper i → p < 256 → IsBelow i → IsBelow (next i p bit)
unfolding next
below_next i p true proper fits b =
    let s = split_small i.range p (omega arith) fits in
    let t = b.top in
    below_widen 7 (narrow i p true) (record { top = omega (arith, t, s) })
below_next i p false proper fits b =
    let s = split_small i.range p (omega arith) fits in
    let t = b.top in
    below_widen 7 (narrow i p false) (record { top = omega (arith, t, s) })

pub record IsReached (i : Interval) : Type 0 where
  pub proper : IsProper i
  pub below : IsBelow i

steps_reached : (xs : List (ℕ × Bool)) (i : Interval) → AreFit xs → IsReached i → IsReached (steps i xs)
steps_reached [] i fit r = r
steps_reached (x ∷ xs) i fit r =
    steps_reached xs (next i x.0 x.1) fit.1 (record { proper = next_proper i x.0 x.1 r.proper fit.0; below = below_next i x.0 x.1 r.proper fit.0 r.below })

pub low_fits : (i : Interval) → IsProper i → IsBelow i → i.low < 2 ^ (8 + i.k)
low_fits i proper b =
    let t = b.top in
    let low = proper.low in
    let p : 2 ^ (8 + i.k) ≡ 256 * 2 ^ i.k = pow-add 2 8 i.k in
    let pos : 0 < 2 ^ i.k = pow_pos i.k in
    omega (arith, t, p, pos, low)

contains_low : (i : Interval) → IsProper i → first (8 + i.k) (bits_of (written i)) ≡ i.low → Contains (bits_of (written i)) i
contains_low i proper e = let low = proper.low in record { low = rw e (omega arith); high = rw e (omega arith) }

-- the bytes written spell a number of the last interval
pub contains_written : (xs : List (ℕ × Bool)) → AreFit xs → Contains (bits_of (written (steps start xs))) (steps start xs)
contains_written xs fit =
    let proper : IsProper start = record { low = lit≤ tt; high = lit≤ tt } in
    let r = steps_reached xs start fit (record { proper = proper; below = record { top = lit≤ tt } }) in
    let i = steps start xs in
    let low : i.low < 2 ^ (8 + i.k) = low_fits i r.proper r.below in
    contains_low i r.proper (first_written i low)

-- reading what was written, at its probabilities, gives its bits
pub reading_written : (xs : List (ℕ × Bool)) → AreFit xs → read_all (written (steps start xs)) start (map (λ x. x.0) xs) ≡ map (λ x. x.1) xs
reading_written xs fit =
    let proper : IsProper start = record { low = lit≤ tt; high = lit≤ tt } in
    (reads_back (written (steps start xs)) xs start proper fit (contains_written xs fit)).0
