-- The bytes that an encoder ends with are those of its interval.
use Rattle.std.proofs.Common.{◌≡◌, ℕ, suc, zero, ◌+◌, ◌-◌, ◌*◌, ◌/◌, ◌%◌, ◌^◌, ◌<◌, ◌≤◌, ◌∙◌, List, [], ◌∷◌, length, get_or, max, arith, refl, ap, sym, inl, inr, ◌⊎◌, Bool, map}
use Rattle.std.proofs.lemmas.Bool.{cases_lt}
use Rattle.std.proofs.lemmas.Nat.{pow-add, shl_below, mul-le, div_below}
use Rattle.std.proofs.Math.Nat.{pow-suc, mod-eq_of_lt, add-mul-div_right, one-le-pow}
use Rattle.sal_bool.specs.Bits.{Interval, start, read_all}
use Rattle.sal_bool.specs.Written.{value, standing, be_bytes, written, written_bytes, steps, AreFit}
use Rattle.sal_bool.proofs.Laws.{reading_written}
use Rattle.sal_bool.proofs.Sending.{carry_fits}

pos_256 : (n : ℕ) → 0 < 256 ^ n
pos_256 n = one-le-pow n 256 (omega arith)

value_small : (xs : List ℕ) → ((i : ℕ) → get_or xs i 0 < 256) → value xs < 256 ^ length xs
value_small [] h = omega arith
value_small (x ∷ xs) h =
    let ih : value xs < 256 ^ length xs = value_small xs (λ i. h (suc i)) in
    let here : x < 256 = h 0 in
    let m : x * 256 ^ length xs ≤ 255 * 256 ^ length xs = mul-le x (256 ^ length xs) 255 (256 ^ length xs) (omega (arith, here)) (omega arith) in
    rw (pow-suc 256 (length xs)) (omega (arith, ih, m))

pow_split : (a d n : ℕ) → a * 256 ^ suc (d + n) ≡ a * 256 ^ d * 256 * 256 ^ n
pow_split a d n =
    let e : 256 ^ suc (d + n) ≡ 256 ^ d * 256 ^ n * 256 = pow-suc 256 (d + n) ∙ ap (λ x. x * 256) (pow-add 256 d n) in
    rw e (omega arith)

byte_same : (a d n y : ℕ) → (y + a * 256 ^ suc (d + n)) / 256 ^ n % 256 ≡ y / 256 ^ n % 256
byte_same a d n y =
    let q : (y + a * 256 ^ suc (d + n)) / 256 ^ n ≡ y / 256 ^ n + a * 256 ^ d * 256 = ap (λ x. (y + x) / 256 ^ n) (pow_split a d n) ∙ add-mul-div_right y (a * 256 ^ d * 256) (pos_256 n) in
    rw q (omega arith)

be_same : (n m y a : ℕ) → n ≤ m → be_bytes n (y + a * 256 ^ m) ≡ be_bytes n y
be_same zero m y a le = refl
be_same (suc n) m y a le =
    let e : m ≡ suc (m - suc n + n) = omega arith in
    let h : (y + a * 256 ^ m) / 256 ^ n % 256 ≡ y / 256 ^ n % 256 = ap (λ k. (y + a * 256 ^ k) / 256 ^ n % 256) e ∙ byte_same a (m - suc n) n y in
    ap (λ x. x ∷ be_bytes n (y + a * 256 ^ m)) h ∙ ap (λ xs. y / 256 ^ n % 256 ∷ xs) (be_same n m y a (omega (arith, le)))

head_byte : (x p v : ℕ) → x < 256 → 0 < p → v < p → (x * p + v) / p % 256 ≡ x
head_byte x p v small positive lt =
    let e : x * p + v ≡ v + x * p = omega arith in
    let q : (v + x * p) / p ≡ v / p + x = add-mul-div_right v x positive in
    let o : v < 1 * p = omega (arith, lt) in
    let z : v / p < 1 = div_below v p 1 positive o in
    rw (e, q) (omega (arith, z))

-- bytes are the digits of the number that they spell
be_value : (xs : List ℕ) → ((i : ℕ) → get_or xs i 0 < 256) → be_bytes (length xs) (value xs) ≡ xs
be_value [] h = refl
be_value (x ∷ xs) h =
    let n = length xs in
    let small = value_small xs (λ i. h (suc i)) in
    let first : (x * 256 ^ n + value xs) / 256 ^ n % 256 ≡ x = head_byte x (256 ^ n) (value xs) (h 0) (pos_256 n) small in
    let e : x * 256 ^ n + value xs ≡ value xs + x * 256 ^ n = omega arith in
    let rest : be_bytes n (x * 256 ^ n + value xs) ≡ xs = ap (be_bytes n) e ∙ (be_same n n (value xs) x (omega arith) ∙ be_value xs (λ i. h (suc i))) in
    ap (λ y. y ∷ be_bytes n (x * 256 ^ n + value xs)) first ∙ ap (λ ys. x ∷ ys) rest

pub bytes_of_value : (xs : List ℕ) (n x : ℕ) → ((i : ℕ) → get_or xs i 0 < 256) → length xs ≡ n → value xs ≡ x → xs ≡ be_bytes n x
bytes_of_value xs n x h l v = sym (be_value xs h) ∙ (ap (λ k. be_bytes k (value xs)) l ∙ ap (be_bytes n) v)

-- the last bits, moved to the top of two bytes
pub last_small : (b c r : ℕ) → c < 8 → 0 < r → b + r ≤ 2 ^ (9 + c) → b * 2 ^ (8 - c) < 2 ^ 17
last_small b c r lt positive le =
    let h : b * 2 ^ (8 - c) < 2 ^ (9 + c + (8 - c)) = shl_below b (9 + c) (8 - c) (omega (arith, positive, le)) in
    let e : 9 + c + (8 - c) ≡ 17 = omega arith in
    rw e at h

pub last_whole : (b c r : ℕ) → c < 8 → 0 < r → b + r ≤ 2 ^ (9 + c) → b * 2 ^ (8 - c) % 4294967296 ≡ b * 2 ^ (8 - c)
last_whole b c r lt positive le = let h = last_small b c r lt positive le in mod-eq_of_lt (omega (arith, h))

pub last_carry : (v n b c last : ℕ) → c < 8 → last ≡ b * 2 ^ (8 - c) → v * 2 ^ (8 + c) + b < n * 2 ^ (8 + c) → 256 ≤ last / 256 → v + 1 < n
last_carry v n b c last lt e fits le =
    elim (cases_lt b (2 ^ (8 + c))) [
      | inl small ↦
          let h : b * 2 ^ (8 - c) < 2 ^ (8 + c + (8 - c)) = shl_below b (8 + c) (8 - c) small in
          let s : 8 + c + (8 - c) ≡ 16 = omega arith in
          let h' : b * 2 ^ (8 - c) < 2 ^ 16 = rw s at h in
          absurd (omega (arith, h', e, le))
      | inr large ↦ carry_fits v n b c fits large
    ]

low_two : (v b c : ℕ) → c < 8 → (v * 2 ^ (8 + c) + b) * 2 ^ (8 - c) ≡ v * 65536 + b * 2 ^ (8 - c)
low_two v b c lt =
    let e : 2 ^ (8 + c) * 2 ^ (8 - c) ≡ 65536 = sym (pow-add 2 (8 + c) (8 - c)) ∙ ap (λ k. 2 ^ k) (let s : 8 + c + (8 - c) ≡ 16 = omega arith in s) in
    let d : (v * 2 ^ (8 + c) + b) * 2 ^ (8 - c) ≡ v * (2 ^ (8 + c) * 2 ^ (8 - c)) + b * 2 ^ (8 - c) = omega arith in
    d ∙ ap (λ x. v * x + b * 2 ^ (8 - c)) e

-- two bytes more, where bits stand beyond whole bytes or no byte is out
pub written_two : (out bytes : List ℕ) (b c r last : ℕ) → c < 8 → (0 < c) ⊎ (length out ≡ 0) → last ≡ b * 2 ^ (8 - c) → ((i : ℕ) → get_or bytes i 0 < 256)
    → length bytes ≡ length out + 2 → value bytes ≡ (value out * 256 + last / 256) * 256 + last % 256 → bytes ≡ written (standing out b c r)
unfolding written
written_two out bytes b c r last lt bits e small l v =
    let n : written_bytes (standing out b c r) ≡ length out + 2 = count_two (length out) c lt bits in
    let k : 8 * (length out + 2) - (8 + (8 * length out + c)) ≡ 8 - c = omega arith in
    let x : (value out * 2 ^ (8 + c) + b) * 2 ^ (8 * written_bytes (standing out b c r) - (8 + (8 * length out + c))) ≡ value out * 65536 + b * 2 ^ (8 - c) =
    ap (λ m. (value out * 2 ^ (8 + c) + b) * 2 ^ (8 * m - (8 + (8 * length out + c)))) n ∙ (ap (λ m. (value out * 2 ^ (8 + c) + b) * 2 ^ m) k ∙ low_two (value out) b c lt) in
    bytes_of_value bytes (written_bytes (standing out b c r)) _ small (l ∙ sym n) (omega (arith, v, x, e))
  where
    count_two : (n c : ℕ) → c < 8 → (0 < c) ⊎ (n ≡ 0) → max 2 ((8 + (8 * n + c) + 7) / 8) ≡ n + 2
    count_two n c lt (inl h) = omega arith
    count_two n c lt (inr h) = omega arith

-- one byte more, where whole bytes are out and no bit stands beyond them
pub written_one : (out bytes : List ℕ) (b c r last : ℕ) → c ≡ 0 → 0 < length out → last ≡ b * 2 ^ (8 - c) → ((i : ℕ) → get_or bytes i 0 < 256)
    → length bytes ≡ length out + 1 → value bytes ≡ value out * 256 + last / 256 → bytes ≡ written (standing out b c r)
unfolding written
written_one out bytes b c r last zero_bits some e small l v =
    let n : written_bytes (standing out b c r) ≡ length out + 1 = omega (arith, zero_bits, some) in
    let k : 8 * (length out + 1) - (8 + (8 * length out + c)) ≡ 0 = omega (arith, zero_bits) in
    let x : (value out * 2 ^ (8 + c) + b) * 2 ^ (8 * written_bytes (standing out b c r) - (8 + (8 * length out + c))) ≡ value out * 256 + b =
    ap (λ m. (value out * 2 ^ (8 + c) + b) * 2 ^ (8 * m - (8 + (8 * length out + c)))) n ∙ (ap (λ m. (value out * 2 ^ (8 + c) + b) * 2 ^ m) k ∙ (ap (λ m. (value out * 2 ^ (8 + m) + b) * 1) zero_bits ∙ omega arith)) in
    let y : last ≡ b * 256 = e ∙ ap (λ m. b * 2 ^ (8 - m)) zero_bits in
    bytes_of_value bytes (written_bytes (standing out b c r)) _ small (l ∙ sym n) (omega (arith, v, x, y))

-- what was written is read back
pub law_of : (i : Interval) (bytes : List ℕ) → bytes ≡ written i → (xs : List (ℕ × Bool)) → AreFit xs → i ≡ steps start xs → read_all bytes start (map (λ x. x.0) xs) ≡ map (λ x. x.1) xs
law_of i bytes e xs fit s = ap (λ bs. read_all bs start (map (λ x. x.0) xs)) (e ∙ ap written s) ∙ reading_written xs fit
