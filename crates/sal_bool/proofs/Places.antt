-- The carry: what a write at a place does to the number that bytes spell.
use Rattle.std.proofs.Common.{◌≡◌, ℕ, suc, zero, ◌+◌, ◌-◌, ◌*◌, ◌^◌, ◌<◌, ◌≤◌, List, [], ◌∷◌, length, get_or, set, length-set, arith}
use Rattle.std.proofs.Math.Nat.{pow-suc}
use Rattle.sal_bool.specs.Written.{value}

-- what a write at place i does to the number
pub value_set : (xs : List ℕ) (i v : ℕ) → i < length xs → value (set xs i v) + get_or xs i 0 * 256 ^ (length xs - (i + 1)) ≡ value xs + v * 256 ^ (length xs - (i + 1))
value_set [] i v lt = absurd (omega arith)
value_set (x ∷ xs) zero v lt =
    let e : length (x ∷ xs) - (0 + 1) ≡ length xs = omega arith in
    rw e (omega arith)
value_set (x ∷ xs) (suc i) v lt =
    let h = value_set xs i v (omega arith) in
    let e : length (x ∷ xs) - (suc i + 1) ≡ length xs - (i + 1) = omega arith in
    let l : length (set xs i v) ≡ length xs = length-set xs i v in
    rw (e, l) (omega (arith, h))

pub carried : (xs : List ℕ) (i total : ℕ) → 0 < i → i ≤ length xs → get_or xs (i - 1) 0 ≡ 255 → value xs + 256 ^ (length xs - i) ≡ total
    → value (set xs (i - 1) 0) + 256 ^ (length (set xs (i - 1) 0) - (i - 1)) ≡ total
carried xs i total pos le top h =
    let w = value_set xs (i - 1) 0 (omega arith) in
    let e : length xs - (i - 1 + 1) ≡ length xs - i = omega arith in
    let f : length xs - (i - 1) ≡ suc (length xs - i) = omega arith in
    let w' = rw (e, top) at w in
    rw (length-set xs (i - 1) 0, f, pow-suc 256 (length xs - i)) (omega (arith, w', h))

pub settled_carry : (xs : List ℕ) (i total : ℕ) → 0 < i → i ≤ length xs → value xs + 256 ^ (length xs - i) ≡ total
    → value (set xs (i - 1) (get_or xs (i - 1) 0 + 1)) ≡ total
settled_carry xs i total pos le h =
    let w = value_set xs (i - 1) (get_or xs (i - 1) 0 + 1) (omega arith) in
    let e : length xs - (i - 1 + 1) ≡ length xs - i = omega arith in
    let w' = rw e at w in
    omega (arith, w', h)
