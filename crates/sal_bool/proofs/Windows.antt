-- The decoder's window: bits move from below the lead into it, and bytes come in below them.
use Rattle.std.proofs.Common.{◌≡◌, ℕ, suc, zero, ◌+◌, ◌-◌, ◌*◌, ◌/◌, ◌%◌, ◌^◌, ◌<◌, ◌≤◌, ◌∙◌, List, [], ◌∷◌, ◌++◌, Bool, nat_le, length, arith, refl, ap, sym, append_assoc}
use Rattle.std.proofs.lemmas.Nat.{shr-shr, pow_pos, pow-add}
use Rattle.std.proofs.Math.Nat.{pow-suc, add-mul-div_right, mod-eq_of_lt}
use Rattle.sal_bool.specs.Bits.{low_bits, bits_of, split_of}
use Rattle.sal_bool.specs.Reading.{Reading, seen, IsWithin, trimmed, onto, head_bit, rest_bits, doubled, settled, narrowed, next_bit, after_bit}
use Rattle.sal_bool.proofs.Standing.{head_onto, rest_onto}
use Rattle.sal_bool.proofs.Settling.{advanced, settled_by}

suc_plus : (c : ℕ) → suc c ≡ c + 1
suc_plus c = omega arith

halves : (window c : ℕ) → 2 * (window / 2 ^ suc c) + (window / 2 ^ c) % 2 ≡ window / 2 ^ c
halves window c =
    let e : window / 2 ^ suc c ≡ window / 2 ^ c / 2 = ap (λ k. window / 2 ^ k) (suc_plus c) ∙ sym (shr-shr window c 1) in
    let q = window / 2 ^ c in
    rw e (omega arith)

seen_doubled : (window c range : ℕ) (rest : List ℕ) → doubled (seen window (suc c) range rest) ≡ seen window c (2 * range) rest
seen_doubled window c range rest =
    let b = (window / 2 ^ c) % 2 in
    let bits = low_bits c window ++ bits_of rest in
    let a : 2 * (window / 2 ^ suc c) + head_bit (onto b (trimmed bits)) ≡ window / 2 ^ c = ap (λ x. 2 * (window / 2 ^ suc c) + x) (head_onto b (trimmed bits)) ∙ halves window c in
    let d : rest_bits (onto b (trimmed bits)) ≡ trimmed bits = rest_onto b (trimmed bits) in
    rw (a, d) refl

-- s doublings take s bits
pub seen_advanced : (s count c window range : ℕ) (rest : List ℕ) → count ≡ c + s → advanced s (seen window count range rest) ≡ seen window c (range * 2 ^ s) rest
seen_advanced zero count c window range rest e =
    let p : count ≡ c = omega arith in
    let q : range ≡ range * 1 = omega arith in
    ap (λ n. seen window n range rest) p ∙ ap (λ n. seen window c n rest) q
seen_advanced (suc s) count c window range rest e =
    let p : count ≡ suc (c + s) = omega arith in
    let q : 2 * range * 2 ^ s ≡ range * 2 ^ suc s = rw (pow-suc 2 s) (omega arith) in
    ap (λ n. advanced s (doubled (seen window n range rest))) p ∙ (ap (λ r. advanced s r) (seen_doubled window (c + s) range rest)
    ∙ (seen_advanced s (c + s) c window (2 * range) rest refl ∙ ap (λ n. seen window c n rest) q))

byte_bits : (window byte : ℕ) → byte < 256 → low_bits 8 (window * 256 + byte) ≡ low_bits 8 byte
byte_bits window byte small =
    let a7 : ((window * 256 + byte) / 2 ^ 7) % 2 ≡ (byte / 2 ^ 7) % 2 = omega arith in
    let a6 : ((window * 256 + byte) / 2 ^ 6) % 2 ≡ (byte / 2 ^ 6) % 2 = omega arith in
    let a5 : ((window * 256 + byte) / 2 ^ 5) % 2 ≡ (byte / 2 ^ 5) % 2 = omega arith in
    let a4 : ((window * 256 + byte) / 2 ^ 4) % 2 ≡ (byte / 2 ^ 4) % 2 = omega arith in
    let a3 : ((window * 256 + byte) / 2 ^ 3) % 2 ≡ (byte / 2 ^ 3) % 2 = omega arith in
    let a2 : ((window * 256 + byte) / 2 ^ 2) % 2 ≡ (byte / 2 ^ 2) % 2 = omega arith in
    let a1 : ((window * 256 + byte) / 2 ^ 1) % 2 ≡ (byte / 2 ^ 1) % 2 = omega arith in
    let a0 : ((window * 256 + byte) / 2 ^ 0) % 2 ≡ (byte / 2 ^ 0) % 2 = omega arith in
    rw (a7, a6, a5, a4, a3, a2, a1, a0) refl

above_byte : (window byte k : ℕ) → byte < 256 → (window * 256 + byte) / 2 ^ (k + 8) ≡ window / 2 ^ k
above_byte window byte k small =
    let e : k + 8 ≡ 8 + k = omega arith in
    let q : (window * 256 + byte) / 256 ≡ window = omega arith in
    ap (λ n. (window * 256 + byte) / 2 ^ n) e ∙ (sym (shr-shr (window * 256 + byte) 8 k) ∙ ap (λ n. n / 2 ^ k) q)

bits_filled : (count window byte : ℕ) → byte < 256 → low_bits (count + 8) (window * 256 + byte) ≡ low_bits count window ++ low_bits 8 byte
bits_filled zero window byte small = byte_bits window byte small
bits_filled (suc c) window byte small =
    let e : suc c + 8 ≡ suc (c + 8) = omega arith in
    let a = above_byte window byte c small in
    let ih = bits_filled c window byte small in
    ap (λ n. low_bits n (window * 256 + byte)) e ∙ (ap (λ x. x % 2 ∷ low_bits (c + 8) (window * 256 + byte)) a ∙ ap (λ xs. (window / 2 ^ c) % 2 ∷ xs) ih)

-- a byte comes in below the window's bits
pub seen_filled : (window count range byte : ℕ) (rest : List ℕ) → byte < 256 → seen (window * 256 + byte) (count + 8) range rest ≡ seen window count range (byte ∷ rest)
seen_filled window count range byte rest small =
    let a = above_byte window byte count small in
    let b : low_bits (count + 8) (window * 256 + byte) ++ bits_of rest ≡ low_bits count window ++ (low_bits 8 byte ++ bits_of rest) =
    ap (λ xs. xs ++ bits_of rest) (bits_filled count window byte small) ∙ append_assoc (low_bits count window) (low_bits 8 byte) (bits_of rest) in
    ap (λ n. let r : Reading = record { above = n; range = range; bits = trimmed (low_bits (count + 8) (window * 256 + byte) ++ bits_of rest) } in r) a
    ∙ ap (λ xs. let r : Reading = record { above = window / 2 ^ count; range = range; bits = trimmed xs } in r) b

trimmed_end : (xs zs : List ℕ) → trimmed zs ≡ [] → trimmed (xs ++ zs) ≡ trimmed (xs ++ [])
trimmed_end [] zs h = h
trimmed_end (x ∷ xs) zs h = ap (λ ys. onto x ys) (trimmed_end xs zs h)

-- past the end a zero byte comes in, which changes nothing
pub seen_past_end : (window count range : ℕ) → seen (window * 256) (count + 8) range [] ≡ seen window count range []
seen_past_end window count range =
    let e : window * 256 ≡ window * 256 + 0 = omega arith in
    ap (λ n. seen n (count + 8) range []) e ∙ (seen_filled window count range 0 [] (omega arith) ∙ ap (λ xs. let r : Reading = record { above = window / 2 ^ count; range = range; bits = xs } in r) (trimmed_end (low_bits count window) (low_bits 8 0 ++ []) refl))

pow_split : (a d c : ℕ) → a * 2 ^ suc (d + c) ≡ a * 2 ^ d * 2 * 2 ^ c
pow_split a d c =
    let e : 2 ^ suc (d + c) ≡ 2 ^ d * 2 ^ c * 2 = pow-suc 2 (d + c) ∙ ap (λ x. x * 2) (pow-add 2 d c) in
    rw e (omega arith)

bit_same : (a d c y : ℕ) → (y + a * 2 ^ suc (d + c)) / 2 ^ c % 2 ≡ y / 2 ^ c % 2
bit_same a d c y =
    let q : (y + a * 2 ^ suc (d + c)) / 2 ^ c ≡ y / 2 ^ c + a * 2 ^ d * 2 = ap (λ x. (y + x) / 2 ^ c) (pow_split a d c) ∙ add-mul-div_right y (a * 2 ^ d * 2) (pow_pos c) in
    rw q (omega arith)

-- what lies above the lowest n bits leaves them as they are
low_same : (c n y a : ℕ) → c ≤ n → low_bits c (y + a * 2 ^ n) ≡ low_bits c y
low_same zero n y a le = refl
low_same (suc c) n y a le =
    let e : n ≡ suc (n - suc c + c) = omega arith in
    let m : (y + a * 2 ^ n) / 2 ^ c % 2 ≡ y / 2 ^ c % 2 = ap (λ k. (y + a * 2 ^ k) / 2 ^ c % 2) e ∙ bit_same a (n - suc c) c y in
    ap (λ x. x ∷ low_bits c (y + a * 2 ^ n)) m ∙ ap (λ xs. y / 2 ^ c % 2 ∷ xs) (low_same c n y a (omega (arith, le)))

above_lowered : (window count split : ℕ) → split * 2 ^ count ≤ window → (window - split * 2 ^ count) / 2 ^ count ≡ window / 2 ^ count - split
above_lowered window count split le =
    let y = window - split * 2 ^ count in
    let w : window ≡ y + split * 2 ^ count = omega arith in
    let q : window / 2 ^ count ≡ y / 2 ^ count + split = ap (λ x. x / 2 ^ count) w ∙ add-mul-div_right y split (pow_pos count) in
    omega (arith, q)

-- a split that is taken from the window is taken from the lead
pub seen_lowered : (window count split range : ℕ) (rest : List ℕ) → split * 2 ^ count ≤ window
    → seen (window - split * 2 ^ count) count range rest ≡ record { above = window / 2 ^ count - split; range = range; bits = trimmed (low_bits count window ++ bits_of rest) }
seen_lowered window count split range rest le =
    let y = window - split * 2 ^ count in
    let w : window ≡ y + split * 2 ^ count = omega arith in
    let b : low_bits count window ≡ low_bits count y = ap (λ x. low_bits count x) w ∙ low_same count count y split (omega arith) in
    ap (λ n. let r : Reading = record { above = n; range = range; bits = trimmed (low_bits count y ++ bits_of rest) } in r) (above_lowered window count split le)
    ∙ ap (λ bits. let r : Reading = record { above = window / 2 ^ count - split; range = range; bits = trimmed (bits ++ bits_of rest) } in r) (sym b)

pow_more : (range count : ℕ) → range * 2 ^ (count + 8) ≡ range * 2 ^ count * 256
pow_more range count = rw (pow-add 2 count 8) (omega arith)

-- a byte more leaves the window within its range
pub within_filled : (window count range byte : ℕ) (rest : List ℕ) → byte < 256 → window < range * 2 ^ count → IsWithin (window * 256 + byte) (count + 8) range rest
within_filled window count range byte rest small lt =
    let e = pow_more range count in
    (omega (arith, e, lt), λ _. omega (arith, e, lt))

pub within_past_end : (window count range : ℕ) → window ≤ range * 2 ^ count → window * 256 ≤ range * 2 ^ (count + 8)
within_past_end window count range le = let e = pow_more range count in omega (arith, e, le)

-- all that a bit does to a window: the split is taken or not, and the doublings move the window's place
pub stepped : (r : Reading) (p w c range w' range' shift : ℕ) (rest : List ℕ) (bit : Bool) → r ≡ seen w c range rest → bit ≡ nat_le (split_of range p) (w / 2 ^ c)
    → seen w' c range' rest ≡ narrowed (seen w c range rest) p bit → shift ≤ 7 → 7 ≤ c → 128 ≤ range' * 2 ^ shift → range' * 2 ^ shift < 256
    → seen w' (c - shift) (range' * 2 ^ shift % 4294967296) rest ≡ after_bit r p
unfolding after_bit
stepped r p w c range w' range' shift rest bit e b n few enough full small =
    let m : range' * 2 ^ shift % 4294967296 ≡ range' * 2 ^ shift = mod-eq_of_lt (omega (arith, small)) in
    let s : settled 7 (seen w' c range' rest) ≡ advanced shift (seen w' c range' rest) = settled_by 7 shift (seen w' c range' rest) few full small in
    let a : advanced shift (seen w' c range' rest) ≡ seen w' (c - shift) (range' * 2 ^ shift) rest = seen_advanced shift c (c - shift) w' range' rest (omega arith) in
    let f : settled 7 (narrowed (seen w c range rest) p bit) ≡ settled 7 (narrowed (seen w c range rest) p (nat_le (split_of range p) (w / 2 ^ c))) = ap (λ x. settled 7 (narrowed (seen w c range rest) p x)) b in
    ap (λ k. seen w' (c - shift) k rest) m ∙ (sym a ∙ (sym s ∙ (ap (λ x. settled 7 x) n ∙ (f ∙ ap (λ x. settled 7 (narrowed x p (next_bit x p))) (sym e)))))

pow_back : (range shift c : ℕ) → shift ≤ c → range * 2 ^ shift * 2 ^ (c - shift) ≡ range * 2 ^ c
pow_back range shift c le =
    let e : 2 ^ shift * 2 ^ (c - shift) ≡ 2 ^ c = sym (pow-add 2 shift (c - shift)) ∙ ap (λ k. 2 ^ k) (let t : shift + (c - shift) ≡ c = omega arith in t) in
    let t : range * 2 ^ shift * 2 ^ (c - shift) ≡ range * (2 ^ shift * 2 ^ (c - shift)) = omega arith in
    t ∙ ap (λ x. range * x) e

pub within_stepped : (w c range shift : ℕ) (rest : List ℕ) → shift ≤ c → range * 2 ^ shift < 256 → IsWithin w c range rest → IsWithin w (c - shift) (range * 2 ^ shift % 4294967296) rest
within_stepped w c range shift rest le small h =
    let m : range * 2 ^ shift % 4294967296 ≡ range * 2 ^ shift = mod-eq_of_lt (omega (arith, small)) in
    let e = pow_back range shift c le in
    rw (m, e) h

pub empty_of : (xs : List ℕ) → length xs ≡ 0 → xs ≡ []
empty_of [] h = refl
empty_of (x ∷ xs) h = absurd (omega arith)

pub range_stepped : (range shift : ℕ) → 128 ≤ range * 2 ^ shift → range * 2 ^ shift < 256 → (128 ≤ range * 2 ^ shift % 4294967296) × (range * 2 ^ shift % 4294967296 ≤ 255)
range_stepped range shift full small =
    let m : range * 2 ^ shift % 4294967296 ≡ range * 2 ^ shift = mod-eq_of_lt (omega (arith, small)) in
    rw m (full, omega (arith, small))

taken_out : (range split count : ℕ) → split ≤ range → (range - split) * 2 ^ count + split * 2 ^ count ≡ range * 2 ^ count
taken_out range split count le =
    let e : range - split + split ≡ range = omega arith in
    let d : (range - split) * 2 ^ count + split * 2 ^ count ≡ (range - split + split) * 2 ^ count = omega arith in
    d ∙ ap (λ x. x * 2 ^ count) e

-- a split that is taken from the window is taken from its range
pub within_lowered : (window raised split range count : ℕ) → raised ≡ split * 2 ^ count → split ≤ range → raised ≤ window → window ≤ range * 2 ^ count → window - raised ≤ (range - split) * 2 ^ count
within_lowered window raised split range count e le low high = let t = taken_out range split count le in omega (arith, t, e)

pub inside_lowered : (window raised split range count : ℕ) → raised ≡ split * 2 ^ count → split ≤ range → raised ≤ window → window < range * 2 ^ count → window - raised < (range - split) * 2 ^ count
inside_lowered window raised split range count e le low high = let t = taken_out range split count le in omega (arith, t, e)

pub lead_of : (r : Reading) (p w c range : ℕ) (rest : List ℕ) → r ≡ seen w c range rest → next_bit r p ≡ nat_le (split_of range p) (w / 2 ^ c)
lead_of r p w c range rest e = ap (λ (x : Reading). next_bit x p) e
