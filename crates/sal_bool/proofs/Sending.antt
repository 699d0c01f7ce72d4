-- The encoder's numbers: the low end as the bytes that are out and the bits below them.
use Rattle.std.proofs.Common.{◌≡◌, ℕ, suc, zero, ◌+◌, ◌-◌, ◌*◌, ◌/◌, ◌%◌, ◌^◌, ◌<◌, ◌≤◌, ◌∙◌, List, [], ◌∷◌, ◌++◌, Bool, length, take, drop, arith, refl, ap, sym, subst, inl, inr, length-append}
use Rattle.std.proofs.lemmas.Bool.{lt-ltb, le-ltb, cases_lt}
use Rattle.std.proofs.lemmas.Nat.{pow_pos, pow-add, mul-le, div-add-mod', mod_below}
use Rattle.std.proofs.Math.Nat.{pow-suc, pow-le-pow_right, mod-eq_of_lt}
use Rattle.std.proofs.Math.Seq.{take-append_seam}
use Rattle.sal_bool.specs.Bits.{Interval, IsProper, narrow, next, widen, double}
use Rattle.sal_bool.specs.Written.{value, standing, IsBelow}
use Rattle.sal_bool.proofs.Laws.{pow_256, below_next}

-- doubled s times at once
abbrev pub raised : ℕ → Interval → Interval
raised s i = record { low = i.low * 2 ^ s; range = i.range * 2 ^ s; k = i.k + s }

same_interval : (a b c a' b' c' : ℕ) → a ≡ a' → b ≡ b' → c ≡ c' → (let i : Interval = record { low = a; range = b; k = c } in i) ≡ record { low = a'; range = b'; k = c' }
same_interval a b c a' b' c' p q r =
    ap (λ n. let i : Interval = record { low = n; range = b; k = c } in i) p
    ∙ (ap (λ n. let i : Interval = record { low = a'; range = n; k = c } in i) q ∙ ap (λ n. let i : Interval = record { low = a'; range = b'; k = n } in i) r)

widen_still : (n : ℕ) (i : Interval) → 128 ≤ i.range → widen n i ≡ i
unfolding widen
widen_still zero i h = refl
widen_still (suc n) i h = rw (le-ltb i.range 128 h) (widen_still n i h)

widen_low : (n : ℕ) (i : Interval) → i.range < 128 → widen (suc n) i ≡ widen n (double i)
unfolding widen
widen_low n i h = rw (lt-ltb i.range 128 h) refl

twice_pow : (x s : ℕ) → x * 2 ^ suc s ≡ 2 * x * 2 ^ s
twice_pow x s = rw (pow-suc 2 s) (omega arith)

low_range : (x s : ℕ) → x * 2 ^ suc s < 256 → x < 128
low_range x s h =
    let e : x * 2 ^ suc s ≡ 2 * x * 2 ^ s = twice_pow x s in
    let p : 0 < 2 ^ s = pow_pos s in
    grind (arith, e, p, h)

pub widen_by : (n s : ℕ) (i : Interval) → s ≤ n → 128 ≤ i.range * 2 ^ s → i.range * 2 ^ s < 256 → widen n i ≡ raised s i
widen_by n zero i le full small = widen_still n i (omega (arith, full)) ∙ same_interval i.low i.range i.k _ _ _ (let e : i.low ≡ i.low * 1 = omega arith in e) (let e : i.range ≡ i.range * 1 = omega arith in e) (let e : i.k ≡ i.k + 0 = omega arith in e)
widen_by zero (suc s) i le full small = absurd (omega arith)
widen_by (suc n) (suc s) i le full small =
    let e : i.range * 2 ^ suc s ≡ 2 * i.range * 2 ^ s = twice_pow i.range s in
    let d : i.low * 2 ^ suc s ≡ 2 * i.low * 2 ^ s = twice_pow i.low s in
    widen_low n i (low_range i.range s small) ∙ (widen_by n s (double i) (omega arith) (rw e at full) (rw e at small)
    ∙ same_interval _ _ _ _ _ _ (sym d) (sym e) (let k : i.k + 1 + s ≡ i.k + suc s = omega arith in k))

low_raised : (v b c s : ℕ) → (v * 2 ^ (8 + c) + b) * 2 ^ s ≡ v * 2 ^ (8 + (c + s)) + b * 2 ^ s
low_raised v b c s =
    let e : 8 + (c + s) ≡ 8 + c + s = omega arith in
    let p : 2 ^ (8 + (c + s)) ≡ 2 ^ (8 + c) * 2 ^ s = ap (λ k. 2 ^ k) e ∙ pow-add 2 (8 + c) s in
    rw p (omega arith)

pub standing_raised : (out : List ℕ) (b c r s : ℕ) → raised s (standing out b c r) ≡ standing out (b * 2 ^ s) (c + s) (r * 2 ^ s)
standing_raised out b c r s = same_interval _ _ _ _ _ _ (low_raised (value out) b c s) refl (let k : 8 * length out + c + s ≡ 8 * length out + (c + s) = omega arith in k)

-- the low end doubled s times keeps its bits, and the room for a carry above it
pub room_raised : (b r c s : ℕ) → b + r ≤ 2 ^ (9 + c) → b * 2 ^ s + r * 2 ^ s ≤ 2 ^ (9 + (c + s))
room_raised b r c s le =
    let e : 9 + (c + s) ≡ 9 + c + s = omega arith in
    let p : 2 ^ (9 + (c + s)) ≡ 2 ^ (9 + c) * 2 ^ s = ap (λ k. 2 ^ k) e ∙ pow-add 2 (9 + c) s in
    let q : (b + r) * 2 ^ s ≤ 2 ^ (9 + c) * 2 ^ s = mul-le (b + r) (2 ^ s) (2 ^ (9 + c)) (2 ^ s) le (omega arith) in
    let d : (b + r) * 2 ^ s ≡ b * 2 ^ s + r * 2 ^ s = omega arith in
    rw p (omega (arith, q, d))

pub whole_raised : (b r c s : ℕ) → c < 8 → s ≤ 7 → b + r ≤ 2 ^ (9 + c) → b * 2 ^ s % 4294967296 ≡ b * 2 ^ s
whole_raised b r c s lt few le =
    let q = room_raised b r c s le in
    let p : 2 ^ (9 + (c + s)) ≤ 2 ^ 23 = pow-le-pow_right {n = 2} (omega arith) {i = 9 + (c + s)} {j = 23} (omega arith) in
    mod-eq_of_lt (omega (arith, p, q))

-- the whole low end is below 256 ^ n where its bytes are n, and 8 + c bits are below them
pub below_bytes : (out : List ℕ) (b c r : ℕ) → 0 < r → IsBelow (standing out b c r) → value out * 2 ^ (8 + c) + b < 256 ^ length out * 2 ^ (8 + c)
below_bytes out b c r positive h =
    let n = length out in
    let t : value out * 2 ^ (8 + c) + b + r ≤ 255 * 2 ^ (8 * n + c) = h.top in
    let p : 2 ^ (8 * n + c) ≡ 2 ^ (8 * n) * 2 ^ c = pow-add 2 (8 * n) c in
    let q : 2 ^ (8 + c) ≡ 256 * 2 ^ c = pow-add 2 8 c in
    let w : 256 ^ n ≡ 2 ^ (8 * n) = pow_256 n in
    let z : 256 ^ n * 2 ^ (8 + c) ≡ 256 * 2 ^ (8 * n + c) = rw (p, q, w) (omega arith) in
    let some : 0 < 2 ^ (8 * n + c) = pow_pos (8 * n + c) in
    rw z (omega (arith, t, some))

-- a carry above 8 + c bits fits the bytes before them
pub carry_fits : (v n b c : ℕ) → v * 2 ^ (8 + c) + b < n * 2 ^ (8 + c) → 2 ^ (8 + c) ≤ b → v + 1 < n
carry_fits v n b c lt le =
    elim (cases_lt (v + 1) n) [
      | inl h ↦ h
      | inr h ↦
          let m : n * 2 ^ (8 + c) ≤ (v + 1) * 2 ^ (8 + c) = mul-le n (2 ^ (8 + c)) (v + 1) (2 ^ (8 + c)) h (omega arith) in
          let d : (v + 1) * 2 ^ (8 + c) ≡ v * 2 ^ (8 + c) + 2 ^ (8 + c) = omega arith in
          absurd (omega (arith, m, d, lt, le))
    ]

pub carry_of_byte : (v n b c : ℕ) → v * 2 ^ (8 + c) + b < n * 2 ^ (8 + c) → 256 ≤ b / 2 ^ c → v + 1 < n
carry_of_byte v n b c lt le =
    let d : b / 2 ^ c * 2 ^ c + b % 2 ^ c ≡ b = div-add-mod' b (2 ^ c) in
    let m : 256 * 2 ^ c ≤ b / 2 ^ c * 2 ^ c = mul-le 256 (2 ^ c) (b / 2 ^ c) (2 ^ c) le (omega arith) in
    let q : 2 ^ (8 + c) ≡ 256 * 2 ^ c = pow-add 2 8 c in
    carry_fits v n b c lt (omega (arith, d, m, q))

-- a byte that goes out leaves the interval as it is
low_sent : (v b c : ℕ) → 8 ≤ c → v * 2 ^ (8 + c) + b ≡ (v * 256 + b / 2 ^ c) * 2 ^ (8 + (c - 8)) + b % 2 ^ c
low_sent v b c le =
    let e : 8 + (c - 8) ≡ c = omega arith in
    let q : 2 ^ (8 + c) ≡ 256 * 2 ^ c = pow-add 2 8 c in
    let d : b / 2 ^ c * 2 ^ c + b % 2 ^ c ≡ b = div-add-mod' b (2 ^ c) in
    let m : (v * 256 + b / 2 ^ c) * 2 ^ c ≡ v * (256 * 2 ^ c) + b / 2 ^ c * 2 ^ c = omega arith in
    rw (e, q) (omega (arith, d, m))

pub standing_sent : (out out' : List ℕ) (b c r : ℕ) → 8 ≤ c → value out' ≡ value out * 256 + b / 2 ^ c → length out' ≡ length out + 1
    → standing out' (b % 2 ^ c) (c - 8) r ≡ standing out b c r
standing_sent out out' b c r le v n =
    same_interval _ _ _ _ _ _ (ap (λ x. x * 2 ^ (8 + (c - 8)) + b % 2 ^ c) v ∙ sym (low_sent (value out) b c le)) refl (let k : 8 * length out' + (c - 8) ≡ 8 * length out + c = omega (arith, n) in k)

pub room_sent : (b c r : ℕ) → 8 ≤ c → r ≤ 255 → b % 2 ^ c + r ≤ 2 ^ (9 + (c - 8))
room_sent b c r le small =
    let e : 9 + (c - 8) ≡ suc c = omega arith in
    let p : 2 ^ (9 + (c - 8)) ≡ 2 ^ c * 2 = ap (λ k. 2 ^ k) e ∙ pow-suc 2 c in
    let m : b % 2 ^ c < 2 ^ c = mod_below b (2 ^ c) (pow_pos c) in
    let q : 2 ^ 8 ≤ 2 ^ c = pow-le-pow_right {n = 2} (omega arith) {i = 8} {j = c} le in
    rw p (omega (arith, m, q, small))

-- one byte more
pub value_snoc : (xs : List ℕ) (b : ℕ) → value (xs ++ b ∷ []) ≡ value xs * 256 + b
value_snoc [] b = omega arith
value_snoc (x ∷ xs) b =
    let ih = value_snoc xs b in
    let n : length (xs ++ b ∷ []) ≡ suc (length xs) = length-append xs (b ∷ []) ∙ omega arith in
    let p : 256 ^ length (xs ++ b ∷ []) ≡ 256 ^ length xs * 256 = ap (λ k. 256 ^ k) n ∙ pow-suc 256 (length xs) in
    rw (p, ih) (omega arith)

pub snoc_fits : (v n b : ℕ) → v + 1 < 256 ^ n → b < 256 → v * 256 + b + 256 ^ (n + 1 - n) < 256 ^ (n + 1)
snoc_fits v n b lt small =
    let e : n + 1 - n ≡ 1 = omega arith in
    let p : 256 ^ (n + 1) ≡ 256 ^ n * 256 = ap (λ k. 256 ^ k) (let s : n + 1 ≡ suc n = omega arith in s) ∙ pow-suc 256 n in
    let o : 256 ^ (n + 1 - n) ≡ 256 = ap (λ k. 256 ^ k) e in
    rw (p, o) (omega (arith, lt, small))

pub snoc_carried : (v n byte : ℕ) → 256 ≤ byte → byte < 512 → v * 256 + byte % 256 + 256 ^ (n + 1 - n) ≡ v * 256 + byte
snoc_carried v n byte low high =
    let e : n + 1 - n ≡ 1 = omega arith in
    let o : 256 ^ (n + 1 - n) ≡ 256 = ap (λ k. 256 ^ k) e in
    rw o (omega arith)

-- the carry into the bytes before the last one
pub carry_before_last : (xs ys : List ℕ) (b end : ℕ) → ys ≡ xs ++ b ∷ [] → end ≡ length xs → value xs + 1 < 256 ^ length xs → b < 256 → value ys + 256 ^ (length ys - end) < 256 ^ length ys
carry_before_last xs ys b end e n lt small =
    let v : value ys ≡ value xs * 256 + b = ap value e ∙ value_snoc xs b in
    let l : length ys ≡ length xs + 1 = ap length e ∙ length-append xs (b ∷ []) in
    rw (v, l, n) (snoc_fits (value xs) (length xs) b lt small)

pub value_before_last : (xs ys : List ℕ) (byte end : ℕ) → ys ≡ xs ++ (byte % 256) ∷ [] → end ≡ length xs → 256 ≤ byte → byte < 512 → value ys + 256 ^ (length ys - end) ≡ value xs * 256 + byte
value_before_last xs ys byte end e n low high =
    let v : value ys ≡ value xs * 256 + byte % 256 = ap value e ∙ value_snoc xs (byte % 256) in
    let l : length ys ≡ length xs + 1 = ap length e ∙ length-append xs ((byte % 256) ∷ []) in
    rw (v, l, n) (snoc_carried (value xs) (length xs) byte low high)

pub value_last : (xs ys : List ℕ) (byte : ℕ) → ys ≡ xs ++ (byte % 256) ∷ [] → byte < 256 → value ys ≡ value xs * 256 + byte
value_last xs ys byte e small = ap value e ∙ (value_snoc xs (byte % 256) ∙ ap (λ b. value xs * 256 + b) (mod-eq_of_lt small))

-- bytes that were lent to be written over
pub lent_back : (n : ℕ) (s w : List ℕ) → length w ≡ n → take n (w ++ drop (length w) s) ≡ w
lent_back n s w e = ap (λ k. take k (w ++ drop (length w) s)) (sym e) ∙ take-append_seam w (drop (length w) s)

-- what `put` owes to `send`, and the state that it leaves
pub put_small : (b r c s : ℕ) → 0 < r → c < 8 → s ≤ 7 → b + r ≤ 2 ^ (9 + c) → b * 2 ^ s % 4294967296 < 2 ^ (9 + (c + s))
put_small b r c s positive lt few le =
    let q = room_raised b r c s le in
    let m = whole_raised b r c s lt few le in
    let p : 0 < 2 ^ s = pow_pos s in
    let t : 0 < r * 2 ^ s = grind (arith, p, positive) in
    rw m (omega (arith, q, t))

after_raised : (i : Interval) (p : ℕ) (bit : Bool) (out : List ℕ) (b c r s : ℕ) → standing out b c r ≡ narrow i p bit → s ≤ 7 → 128 ≤ r * 2 ^ s → r * 2 ^ s < 256
    → next i p bit ≡ standing out (b * 2 ^ s) (c + s) (r * 2 ^ s)
unfolding next
after_raised i p bit out b c r s e few full small =
    ap (λ j. widen 7 j) (sym e) ∙ (widen_by 7 s (standing out b c r) few full small ∙ standing_raised out b c r s)

pub put_fits : (i : Interval) (p : ℕ) (bit : Bool) (out : List ℕ) (b c r s b' : ℕ) → standing out b c r ≡ narrow i p bit → s ≤ 7 → 128 ≤ r * 2 ^ s → r * 2 ^ s < 256
    → b' ≡ b * 2 ^ s → IsProper i → p < 256 → IsBelow i → value out * 2 ^ (8 + (c + s)) + b' < 256 ^ length out * 2 ^ (8 + (c + s))
put_fits i p bit out b c r s b' e few full small m proper fits below =
    let below' : IsBelow (standing out (b * 2 ^ s) (c + s) (r * 2 ^ s)) = subst IsBelow (after_raised i p bit out b c r s e few full small) (below_next i p bit proper fits below) in
    rw m (below_bytes out (b * 2 ^ s) (c + s) (r * 2 ^ s) (omega (arith, full)) below')

pub put_after : (i : Interval) (p : ℕ) (bit : Bool) (out out' : List ℕ) (b c r s b' b'' c'' : ℕ) → standing out b c r ≡ narrow i p bit → s ≤ 7 → 128 ≤ r * 2 ^ s → r * 2 ^ s < 256
    → b' ≡ b * 2 ^ s → standing out' b'' c'' (r * 2 ^ s) ≡ standing out b' (c + s) (r * 2 ^ s) → standing out' b'' c'' (r * 2 ^ s % 4294967296) ≡ next i p bit
put_after i p bit out out' b c r s b' b'' c'' e few full small m sent =
    let w : r * 2 ^ s % 4294967296 ≡ r * 2 ^ s = mod-eq_of_lt (omega (arith, small)) in
    ap (λ x. standing out' b'' c'' x) w ∙ (sent ∙ (ap (λ x. standing out x (c + s) (r * 2 ^ s)) m ∙ sym (after_raised i p bit out b c r s e few full small)))

pub put_below : (i : Interval) (p : ℕ) (bit : Bool) (j : Interval) → j ≡ next i p bit → IsProper i → p < 256 → IsBelow i → IsBelow j
put_below i p bit j e proper fits below = subst IsBelow (sym e) (below_next i p bit proper fits below)
