-- Signed sums of six taps as sums of sizes.
use Rattle.std.proofs.Common.{◌≡◌, ◌∙◌, sym, ap, refl, arith, ℕ, suc, zero, ◌+◌, ◌-◌, ◌*◌, ◌/◌, ◌<◌, ◌≤◌, ℤ, pos, negsuc, ◌+ℤ◌, ◌-ℤ◌, List, [], get_or, to_z, of_z}
use Rattle.std.proofs.lemmas.Int.{ints, to_z-of_z}
use mir.Val.{SFits}
use mir.Syntax.{w16}
use Rattle.std.specs.Prelude.{min, slice_index_or, unsigned_abs}
use Rattle.std.specs.Int.{int_shr}
use Rattle.sal_base.specs.Samples.{clamped}
use Rattle.sal_tables.specs.Tables.{six_taps_of}
use Rattle.sal_inter.specs.Inter.{six_sum, tap, taps_of}
use Rattle.sal_inter.specs.Taps.{by_sizes, weighed, IsFilter}
use Rattle.sal_inter.specs.declared.taps.Taps.{Taps}

-- a tap times a sample
pub at_most_255 : (t x : ℕ) → x < 256 → t * x ≤ 255 * t
at_most_255 t x h = grind arith

-- a signed sum in parts of 128, cut off
pub in_parts : (z : ℤ) (more less : ℕ) → z ≡ pos more -ℤ pos less → clamped (int_shr z 7) ≡ min 255 ((more - less) / 128)
in_parts (pos n) more less h = let e : n ≡ more - less = omega (arith, ints) in rw e refl
in_parts (negsuc n) more less h = let e : more - less ≡ 0 = omega (arith, ints) in rw e refl

same_sizes : {s0 s1 s2 s3 s4 s5 t0 t1 t2 t3 t4 t5 : ℕ} (a b c d e f : ℕ) → s0 ≡ t0 → s1 ≡ t1 → s2 ≡ t2 → s3 ≡ t3 → s4 ≡ t4 → s5 ≡ t5
    → by_sizes s0 s1 s2 s3 s4 s5 a b c d e f ≡ by_sizes t0 t1 t2 t3 t4 t5 a b c d e f
same_sizes a b c d e f h0 h1 h2 h3 h4 h5 = rw (h0, h1, h2, h3, h4, h5) refl

-- the size of the k-th tap of a fraction's filter
abbrev pub size : ℕ → ℕ → ℕ
size fraction k = unsigned_abs (slice_index_or (taps_of fraction) k (pos 0))

-- a tap as it is passed
pub kept_size : (k j v : ℕ) (ts : List (List ℤ)) → ts ≡ six_taps_of → SFits w16 (get_or (get_or ts k []) j (pos 0)) → v ≡ unsigned_abs (to_z w16 (of_z w16 (get_or (get_or ts k []) j (pos 0)))) → v ≡ size k j
kept_size k j v ts is fits e = e ∙ (ap (λ (z : ℤ). unsigned_abs z) (to_z-of_z w16 _ fits) ∙ ap (λ (us : List (List ℤ)). unsigned_abs (get_or (get_or us k []) j (pos 0))) is)

pub added_small : (k : ℕ) → k < 8 → size k 0 + size k 2 + size k 3 + size k 5 ≤ 160
unfolding six_taps_of
added_small zero h = omega arith
added_small (suc zero) h = omega arith
added_small (suc (suc zero)) h = omega arith
added_small (suc (suc (suc zero))) h = omega arith
added_small (suc (suc (suc (suc zero)))) h = omega arith
added_small (suc (suc (suc (suc (suc zero))))) h = omega arith
added_small (suc (suc (suc (suc (suc (suc zero)))))) h = omega arith
added_small (suc (suc (suc (suc (suc (suc (suc zero))))))) h = omega arith
added_small (suc (suc (suc (suc (suc (suc (suc (suc k)))))))) h = absurd (omega arith)

pub taken_small : (k : ℕ) → k < 8 → size k 1 + size k 4 ≤ 32
unfolding six_taps_of
taken_small zero h = omega arith
taken_small (suc zero) h = omega arith
taken_small (suc (suc zero)) h = omega arith
taken_small (suc (suc (suc zero))) h = omega arith
taken_small (suc (suc (suc (suc zero)))) h = omega arith
taken_small (suc (suc (suc (suc (suc zero))))) h = omega arith
taken_small (suc (suc (suc (suc (suc (suc zero)))))) h = omega arith
taken_small (suc (suc (suc (suc (suc (suc (suc zero))))))) h = omega arith
taken_small (suc (suc (suc (suc (suc (suc (suc (suc k)))))))) h = absurd (omega arith)

-- what is rounded
abbrev rounding : List ℤ → ℕ → ℕ → ℕ → ℕ → ℕ → ℕ → ℤ
rounding taps a b c d e f = (((((tap taps 0 a +ℤ tap taps 1 b) +ℤ tap taps 2 c) +ℤ tap taps 3 d) +ℤ tap taps 4 e) +ℤ tap taps 5 f) +ℤ pos 64

pub summed : (k a b c d e f : ℕ) → k < 8 → by_sizes (size k 0) (size k 1) (size k 2) (size k 3) (size k 4) (size k 5) a b c d e f ≡ six_sum k a b c d e f
unfolding six_taps_of six_sum
summed zero a b c d e f h = sym (in_parts (rounding (taps_of 0) a b c d e f) (64 + 0 * a + 128 * c + 0 * d + 0 * f) (0 * b + 0 * e) (omega (arith, ints)))
summed (suc zero) a b c d e f h = sym (in_parts (rounding (taps_of 1) a b c d e f) (64 + 0 * a + 123 * c + 12 * d + 0 * f) (6 * b + 1 * e) (omega (arith, ints)))
summed (suc (suc zero)) a b c d e f h = sym (in_parts (rounding (taps_of 2) a b c d e f) (64 + 2 * a + 108 * c + 36 * d + 1 * f) (11 * b + 8 * e) (omega (arith, ints)))
summed (suc (suc (suc zero))) a b c d e f h = sym (in_parts (rounding (taps_of 3) a b c d e f) (64 + 0 * a + 93 * c + 50 * d + 0 * f) (9 * b + 6 * e) (omega (arith, ints)))
summed (suc (suc (suc (suc zero)))) a b c d e f h = sym (in_parts (rounding (taps_of 4) a b c d e f) (64 + 3 * a + 77 * c + 77 * d + 3 * f) (16 * b + 16 * e) (omega (arith, ints)))
summed (suc (suc (suc (suc (suc zero))))) a b c d e f h = sym (in_parts (rounding (taps_of 5) a b c d e f) (64 + 0 * a + 50 * c + 93 * d + 0 * f) (6 * b + 9 * e) (omega (arith, ints)))
summed (suc (suc (suc (suc (suc (suc zero)))))) a b c d e f h = sym (in_parts (rounding (taps_of 6) a b c d e f) (64 + 1 * a + 36 * c + 108 * d + 2 * f) (8 * b + 11 * e) (omega (arith, ints)))
summed (suc (suc (suc (suc (suc (suc (suc zero))))))) a b c d e f h = sym (in_parts (rounding (taps_of 7) a b c d e f) (64 + 0 * a + 12 * c + 123 * d + 0 * f) (1 * b + 6 * e) (omega (arith, ints)))
summed (suc (suc (suc (suc (suc (suc (suc (suc k)))))))) a b c d e f h = absurd (omega arith)

pub is_filter : (k : ℕ) (t : Taps) → k < 8 → t.first ≡ size k 0 → t.second ≡ size k 1 → t.third ≡ size k 2 → t.fourth ≡ size k 3 → t.fifth ≡ size k 4 → t.sixth ≡ size k 5 → IsFilter k t
unfolding weighed
is_filter k t h h0 h1 h2 h3 h4 h5 a b c d e f = same_sizes a b c d e f h0 h1 h2 h3 h4 h5 ∙ summed k a b c d e f h

-- both bounds at once, of sizes that are known
pub added_at : (k s0 s2 s3 s5 : ℕ) → k < 8 → s0 ≡ size k 0 → s2 ≡ size k 2 → s3 ≡ size k 3 → s5 ≡ size k 5 → s0 + s2 + s3 + s5 ≤ 160
added_at k s0 s2 s3 s5 h e0 e2 e3 e5 = let bound : size k 0 + size k 2 + size k 3 + size k 5 ≤ 160 = added_small k h in rw (e0, e2, e3, e5) bound

pub taken_at : (k s1 s4 : ℕ) → k < 8 → s1 ≡ size k 1 → s4 ≡ size k 4 → s1 + s4 ≤ 32
taken_at k s1 s4 h e1 e4 = let bound : size k 1 + size k 4 ≤ 32 = taken_small k h in rw (e1, e4) bound

-- the filter of no fraction keeps the sample
pub six_identity : (a b c d e f : ℕ) → c ≤ 255 → six_sum 0 a b c d e f ≡ c
unfolding six_taps_of
six_identity a b c d e f h = sym (summed 0 a b c d e f (omega arith)) ∙ omega arith

clamped_small : (z : ℤ) → clamped z ≤ 255
clamped_small (pos n) = omega arith
clamped_small (negsuc n) = omega arith

pub six_small : (k a b c d e f : ℕ) → six_sum k a b c d e f ≤ 255
unfolding six_sum
six_small k a b c d e f = clamped_small _

pub same_six : (k : ℕ) {a b c d e f a' b' c' d' e' f' : ℕ} → a ≡ a' → b ≡ b' → c ≡ c' → d ≡ d' → e ≡ e' → f ≡ f' → six_sum k a b c d e f ≡ six_sum k a' b' c' d' e' f'
same_six k ha hb hc hd he hf = cc
