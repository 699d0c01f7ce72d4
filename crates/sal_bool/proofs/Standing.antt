-- The decoder's reading stands for the interval over the exact number.
use Rattle.std.proofs.Common.{◌≡◌, ℕ, suc, zero, ◌+◌, ◌-◌, ◌*◌, ◌%◌, ◌^◌, ◌≤◌, ◌<◌, ◌∙◌, List, [], ◌∷◌, Bool, true, false, drop, refl, sym, ap, arith, inl, inr, ltb, get_or, lit≤, zero-le}
use Rattle.std.proofs.lemmas.Bool.{lt-ltb, le-ltb, le-leb, lt-leb, leb-true, leb-false, cases_lt}
use Rattle.std.proofs.Math.Nat.{pow-suc, mod-eq_of_lt}
use Rattle.sal_bool.specs.Bits.{bits_of, Interval, IsProper, first, split_of, narrow, double, widen, next, bit_at, start}
use Rattle.sal_bool.specs.Reading.{Reading, head_bit, rest_bits, onto, trimmed, doubled, settled, next_bit, narrowed, after_bit, opened, StandsFor}
use Rattle.sal_bool.proofs.Laws.{AreBits, split_small, are_bits, first_low, next_proper}

head_small : (bits : List ℕ) → AreBits bits → head_bit bits < 2
head_small [] are = omega arith
head_small (b ∷ bits) are = are.0

drop_are : (m : ℕ) (bits : List ℕ) → AreBits bits → AreBits (drop m bits)
drop_are zero bits are = are
drop_are (suc m) [] are = tt
drop_are (suc m) (b ∷ bits) are = drop_are m bits are.1

first_next : (m : ℕ) (bits : List ℕ) → first (suc m) bits ≡ 2 * first m bits + head_bit (drop m bits)
first_next zero [] = refl
first_next zero (b ∷ bits) = omega arith
first_next (suc m) [] = refl
first_next (suc m) (b ∷ bits) =
    let h = first_next m bits in
    let p : b * 2 ^ suc m ≡ 2 * (b * 2 ^ m) = rw (pow-suc 2 m) (omega arith) in
    omega (arith, h, p)

rest_drop : (m : ℕ) (bits : List ℕ) → rest_bits (drop m bits) ≡ drop (suc m) bits
rest_drop zero [] = refl
rest_drop zero (b ∷ bits) = refl
rest_drop (suc m) [] = refl
rest_drop (suc m) (b ∷ bits) = rest_drop m bits

one_more : (k : ℕ) → 8 + (k + 1) ≡ suc (8 + k)
one_more k = omega arith

-- trimming loses no bit
pub head_onto : (b : ℕ) (bs : List ℕ) → head_bit (onto b bs) ≡ b
head_onto zero [] = refl
head_onto zero (c ∷ bs) = refl
head_onto (suc b) bs = refl

pub rest_onto : (b : ℕ) (bs : List ℕ) → rest_bits (onto b bs) ≡ bs
rest_onto zero [] = refl
rest_onto zero (c ∷ bs) = refl
rest_onto (suc b) bs = refl

pub head_trimmed : (bits : List ℕ) → head_bit (trimmed bits) ≡ head_bit bits
head_trimmed [] = refl
head_trimmed (b ∷ bs) = head_onto b (trimmed bs)

pub rest_trimmed : (bits : List ℕ) → rest_bits (trimmed bits) ≡ trimmed (rest_bits bits)
rest_trimmed [] = refl
rest_trimmed (b ∷ bs) = rest_onto b (trimmed bs)

twice : (n low b : ℕ) → low ≤ n → 2 * (n - low) + b ≡ 2 * n + b - 2 * low
twice n low b le = omega arith

-- a reading tied to an interval of any range
record Tied (bytes : List ℕ) (i : Interval) (r : Reading) : Type 0 where
  range : r.range ≡ i.range
  low : i.low ≤ first (8 + i.k) (bits_of bytes)
  inside : first (8 + i.k) (bits_of bytes) < i.low + i.range → (r.above ≡ first (8 + i.k) (bits_of bytes) - i.low) × (r.bits ≡ trimmed (drop (8 + i.k) (bits_of bytes)))
  outside : i.low + i.range ≤ first (8 + i.k) (bits_of bytes) → (r.above ≡ i.range) × (r.bits ≡ [])

tied : (bytes : List ℕ) (i : Interval) (r : Reading) → StandsFor bytes i r → Tied bytes i r
tied bytes i r s = record { range = s.range; low = s.low; inside = s.inside; outside = s.outside }

inside_double : (n low range b above : ℕ) (bits rest : List ℕ) → low ≤ n → b ≡ head_bit rest → (n < low + range → (above ≡ n - low) × (bits ≡ trimmed rest))
    → 2 * n + b < 2 * low + 2 * range → (2 * above + head_bit bits ≡ 2 * n + b - 2 * low) × (rest_bits bits ≡ trimmed (rest_bits rest))
inside_double n low range b above bits rest le e inside lt =
    let h = inside (omega arith) in
    let here : head_bit bits ≡ b = ap head_bit h.1 ∙ head_trimmed rest ∙ sym e in
    let a : above ≡ n - low = h.0 in
    (omega (arith, here, a), ap rest_bits h.1 ∙ rest_trimmed rest)

outside_double : (n low range b above : ℕ) (bits : List ℕ) → b < 2 → (low + range ≤ n → (above ≡ range) × (bits ≡ []))
    → 2 * low + 2 * range ≤ 2 * n + b → (2 * above + head_bit bits ≡ 2 * range) × (rest_bits bits ≡ [])
outside_double n low range b above bits small outside le =
    let h = outside (omega arith) in
    let here : head_bit bits ≡ 0 = ap head_bit h.1 in
    let a : above ≡ range = h.0 in
    (omega (arith, here, a), ap rest_bits h.1)

tied_double : (bytes : List ℕ) (i : Interval) (r : Reading) → Tied bytes i r → Tied bytes (double i) (doubled r)
tied_double bytes i r s =
    let bits = bits_of bytes in
    let n = first (8 + i.k) bits in
    let rest = drop (8 + i.k) bits in
    let b = head_bit rest in
    let small : b < 2 = head_small _ (drop_are (8 + i.k) bits (are_bits bytes)) in
    let e : first (8 + (i.k + 1)) bits ≡ 2 * n + b = ap (λ k. first k bits) (one_more i.k) ∙ first_next (8 + i.k) bits in
    let d : rest_bits rest ≡ drop (8 + (i.k + 1)) bits = rest_drop (8 + i.k) bits ∙ ap (λ k. drop k bits) (sym (one_more i.k)) in
    let low = s.low in
    record {
      range = ap (λ x. 2 * x) s.range;
      low = rw e (omega arith);
      inside = rw (e, ← d) (inside_double n i.low i.range b r.above r.bits rest low refl s.inside);
      outside = rw e (outside_double n i.low i.range b r.above r.bits small s.outside);
    }

tied_widen : (n : ℕ) (bytes : List ℕ) (i : Interval) (r : Reading) → Tied bytes i r → Tied bytes (widen n i) (settled n r)
unfolding widen settled
tied_widen zero bytes i r s = s
tied_widen (suc n) bytes i r s =
    let e : ltb r.range 128 ≡ ltb i.range 128 = ap (λ x. ltb x 128) s.range in
    elim (cases_lt i.range 128) [
      | inl lt ↦ rw (e, lt-ltb i.range 128 lt) (tied_widen n bytes (double i) (doubled r) (tied_double bytes i r s))
      | inr le ↦ rw (e, le-ltb i.range 128 le) (tied_widen n bytes i r s)
    ]

above_split : (n low range split above : ℕ) → split < range → low ≤ n → (n < low + range → above ≡ n - low) → (low + range ≤ n → above ≡ range) → low + split ≤ n → split ≤ above
above_split n low range split above s le inside outside h =
    elim (cases_lt n (low + range)) [
      | inl lt ↦ let a = inside lt in omega (arith, a)
      | inr ge ↦ let a = outside ge in omega (arith, a)
    ]

below_split : (n low range split above : ℕ) → split < range → low ≤ n → (n < low + range → above ≡ n - low) → n < low + split → above < split
below_split n low range split above s le inside h = let a = inside (omega arith) in omega (arith, a)

-- the bit is that of the exact number
same_bit : (bytes : List ℕ) (i : Interval) (r : Reading) (p : ℕ) → split_of i.range p < i.range → Tied bytes i r → next_bit r p ≡ bit_at bytes i p
same_bit bytes i r p s st =
    let n = first (8 + i.k) (bits_of bytes) in
    let split = split_of i.range p in
    elim (cases_lt n (i.low + split)) [
      | inl lt ↦ rw (st.range, lt-leb _ _ lt) (lt-leb _ _ (below_split n i.low i.range split r.above s st.low (λ h. (st.inside h).0) lt))
      | inr le ↦ rw (st.range, le-leb _ _ le) (le-leb _ _ (above_split n i.low i.range split r.above s st.low (λ h. (st.inside h).0) (λ h. (st.outside h).0) le))
    ]

tied_narrow : (bytes : List ℕ) (i : Interval) (r : Reading) (p : ℕ) (bit : Bool) → split_of i.range p < i.range → bit_at bytes i p ≡ bit → Tied bytes i r → Tied bytes (narrow i p bit) (narrowed r p bit)
tied_narrow bytes i r p true s e st =
    let n = first (8 + i.k) (bits_of bytes) in
    let le : i.low + split_of i.range p ≤ n = leb-true _ _ e in
    let same : split_of r.range p ≡ split_of i.range p = ap (λ x. split_of x p) st.range in
    record {
      range = ap (λ x. x - split_of x p) st.range;
      low = le;
      inside = λ lt. let h = st.inside (omega (arith, lt, s)) in (rw same (ap (λ x. x - split_of i.range p) h.0 ∙ omega (arith, le)), h.1);
      outside = λ ge. let h = st.outside (omega (arith, ge, s)) in (rw same (ap (λ x. x - split_of i.range p) h.0), h.1);
    }
tied_narrow bytes i r p false s e st =
    let n = first (8 + i.k) (bits_of bytes) in
    let lt : n < i.low + split_of i.range p = leb-false _ _ e in
    record {
      range = ap (λ x. split_of x p) st.range;
      low = st.low;
      inside = λ h. st.inside (omega (arith, lt, s));
      outside = λ ge. absurd (omega (arith, lt, ge));
    }

pub stands_next : (bytes : List ℕ) (i : Interval) (r : Reading) (p : ℕ) → p < 256 → StandsFor bytes i r
    → (next_bit r p ≡ bit_at bytes i p) × StandsFor bytes (next i p (bit_at bytes i p)) (after_bit r p)
unfolding next after_bit
stands_next bytes i r p fits st =
    let s = split_small i.range p (omega (arith, st.proper.low)) fits in
    let t = tied bytes i r st in
    let same = same_bit bytes i r p s t in
    let b = bit_at bytes i p in
    let h : Tied bytes (widen 7 (narrow i p b)) (settled 7 (narrowed r p b)) = tied_widen 7 bytes (narrow i p b) (narrowed r p b) (tied_narrow bytes i r p b s refl t) in
    let proper : IsProper (next i p b) = next_proper i p b st.proper fits in
    (same, rw same (record { proper = proper; range = h.range; low = h.low; inside = h.inside; outside = h.outside }))

whole : (x : ℕ) → x % 256 ≡ x → x % 256 * 1 + 0 ≡ x
whole x h = omega (arith, h)

first_byte : (x : ℕ) (xs : List ℕ) → x < 256 → first (8 + 0) (bits_of (x ∷ xs)) ≡ x
first_byte x xs small =
    let e : first (8 + 0) (bits_of (x ∷ xs)) ≡ (x % 256) * 2 ^ 0 + first 0 (bits_of xs) = first_low 8 0 x (bits_of xs) in
    e ∙ whole x (mod-eq_of_lt small)

start_proper : IsProper start
start_proper = record { low = lit≤ tt; high = lit≤ tt }

-- a new decoder stands for the first interval
pub stands_opened : (bytes : List ℕ) → ((i : ℕ) → get_or bytes i 0 < 256) → StandsFor bytes start (opened bytes)
stands_opened [] fits = record { proper = start_proper; range = refl; low = lit≤ tt; inside = λ h. (refl, refl); outside = λ h. absurd (omega arith) }
stands_opened (x ∷ xs) fits =
    let e = first_byte x xs (fits 0) in
    elim (cases_lt x 255) [
      | inl lt ↦ rw (lt-leb 255 x lt) (record { proper = start_proper; range = refl; low = zero-le; inside = λ h. (sym e ∙ omega arith, refl); outside = λ h. absurd (omega (arith, e)) })
      | inr le ↦ rw (le-leb 255 x le) (record { proper = start_proper; range = refl; low = zero-le; inside = λ h. absurd (omega (arith, e)); outside = λ h. (refl, refl) })
    ]
