-- A range is doubled until it is at least 128: all doublings at once, by a shift.
use Rattle.std.proofs.Common.{◌≡◌, ℕ, suc, zero, ◌+◌, ◌*◌, ◌^◌, ◌<◌, ◌≤◌, ◌∙◌, arith, refl, ap, sym}
use Rattle.std.proofs.lemmas.Bool.{lt-ltb, le-ltb}
use Rattle.std.proofs.lemmas.Nat.{pow_pos, pow-add, leading_top}
use Rattle.std.proofs.Math.Nat.{pow-suc, mul-lt-mul_of_pos_right}
use Rattle.std.specs.Int.Count.{count_leading_zeros}
use Rattle.sal_bool.specs.Reading.{Reading, settled, doubled}

pub reaches_more : (n r : ℕ) → 128 ≤ r → 128 ≤ r * 2 ^ n
reaches_more n r h = grind (arith, pow_pos n)

-- doubled n times
abbrev pub advanced : ℕ → Reading → Reading
advanced zero r = r
advanced (suc n) r = advanced n (doubled r)

settled_still : (n : ℕ) (r : Reading) → 128 ≤ r.range → settled n r ≡ r
unfolding settled
settled_still zero r h = refl
settled_still (suc n) r h = rw (le-ltb r.range 128 h) (settled_still n r h)

settled_low : (n : ℕ) (r : Reading) → r.range < 128 → settled (suc n) r ≡ settled n (doubled r)
unfolding settled
settled_low n r h = rw (lt-ltb r.range 128 h) refl

twice_pow : (range s : ℕ) → range * 2 ^ suc s ≡ 2 * range * 2 ^ s
twice_pow range s = rw (pow-suc 2 s) (omega arith)

low_range : (range s : ℕ) → range * 2 ^ suc s < 256 → range < 128
low_range range s h =
    let e : range * 2 ^ suc s ≡ 2 * range * 2 ^ s = twice_pow range s in
    let p : 0 < 2 ^ s = pow_pos s in
    grind (arith, e, p, h)

-- the doublings until the range is at least 128 are those of a shift that brings it there
pub settled_by : (n s : ℕ) (r : Reading) → s ≤ n → 128 ≤ r.range * 2 ^ s → r.range * 2 ^ s < 256 → settled n r ≡ advanced s r
settled_by n zero r le full small = settled_still n r (omega (arith, full))
settled_by zero (suc s) r le full small = absurd (omega arith)
settled_by (suc n) (suc s) r le full small =
    let e : r.range * 2 ^ suc s ≡ 2 * r.range * 2 ^ s = twice_pow r.range s in
    settled_low n r (low_range r.range s small) ∙ settled_by n s (doubled r) (omega arith) (rw e at full) (rw e at small)

-- the shift is the count of leading zeros of a range in eight bits
pub shift_full : (r : ℕ) → 0 < r → r < 256 → (count_leading_zeros 8 r ≤ 7) × (128 ≤ r * 2 ^ count_leading_zeros 8 r) × (r * 2 ^ count_leading_zeros 8 r < 256)
shift_full r positive small =
    let s = count_leading_zeros 8 r in
    let h = leading_top 8 r positive small in
    let j : ℕ = h.0 in
    let sum : s + suc j ≡ 8 = h.1 in
    let low : 2 ^ j ≤ r = h.2 in
    let high : r < 2 ^ suc j = h.3 in
    let top : 2 ^ suc j * 2 ^ s ≡ 256 = sym (pow-add 2 (suc j) s) ∙ ap (λ k. 2 ^ k) (let e : suc j + s ≡ 8 = omega arith in e) in
    let half : 2 ^ suc j * 2 ^ s ≡ 2 * (2 ^ j * 2 ^ s) = rw (pow-suc 2 j) (omega arith) in
    let above : 2 ^ j * 2 ^ s ≤ r * 2 ^ s = grind (arith, low) in
    let below : r * 2 ^ s < 2 ^ suc j * 2 ^ s = mul-lt-mul_of_pos_right high (pow_pos s) in
    (omega arith, omega arith, omega arith)
