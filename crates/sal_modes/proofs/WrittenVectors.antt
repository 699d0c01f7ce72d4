-- What is written of a vector is read as that.
use Rattle.std.proofs.Common.{◌≡◌, ℕ, suc, zero, ◌+◌, ◌*◌, ◌/◌, ◌%◌, ◌^◌, ◌≤◌, ◌<◌, ◌∙◌, ℤ, pos, negsuc, ◌+ℤ◌, ◌-ℤ◌, List, [], ◌∷◌, Bool, true, false, not, ◌==◌, nat_lt, if◌then◌else◌, Option, Some, length, slice_index, slice_range, unsigned_abs, refl, sym, ap, arith, subst, inl, inr, ◌⊎◌}
use Rattle.std.proofs.lemmas.Int.{ints}
use Rattle.std.proofs.lemmas.Bool.{lt-ltb, le-ltb, lt-leb, le-leb, cases_lt, eqb-true}
use Rattle.sal_base.specs.declared.kinds.Vector.{Vector}
use Rattle.sal_tables.specs.declared.tree.Entry.{Entry}
use Rattle.sal_tables.specs.Trees.{short_vector_entries}
use Rattle.sal_bool.specs.Syntax.{Done, Follows, one, signed, when, leaf}
use Rattle.sal_bool.specs.Pairs.{Pairs, bit_in, is_negative, way, taken, leaf_pairs, leaf_pairs_from}
use Rattle.sal_bool.proofs.Meaning.{follows_then}
use Rattle.sal_bool.proofs.Writing.{follows_done, follows_end, follows_bit, follows_one, follows_walk}
use Rattle.sal_bool.proofs.ReadBack.{follows_when}
use Rattle.sal_macroblock.specs.Macroblocks.{vector}
use Rattle.sal_modes.specs.Vectors.{plus}
use Rattle.sal_modes.specs.ReadVectors.{bits_at, long_size, component, read_vector}
use Rattle.sal_modes.specs.Written.{bits_at_pairs, long_pairs, size_pairs, component_pairs, vector_pairs}

-- a leaf that a tree has
pub record HasWay (es : List Entry) (x : ℕ) : Type 0 where
  pub path : Pairs
  pub is : way (length es) es 0 x ≡ Some path

-- it is read where it is written
pub leaf_again : (es : List Entry) (ps : List ℕ) (x : ℕ) → HasWay es x → Follows (leaf es ps) (leaf_pairs es ps x) x
unfolding leaf_pairs_from
leaf_again es ps x h =
    let P : Option Pairs → Type 0 = λ o. Follows (leaf es ps) (taken ps o) x in
    subst P (sym h.is) (follows_walk (length es) es ps 0 x h.path h.is)

short_has : (n : ℕ) → n < 8 → HasWay short_vector_entries n
unfolding way short_vector_entries
short_has zero lt = record { path = _; is = refl }
short_has (suc zero) lt = record { path = _; is = refl }
short_has (suc (suc zero)) lt = record { path = _; is = refl }
short_has (suc (suc (suc zero))) lt = record { path = _; is = refl }
short_has (suc (suc (suc (suc zero)))) lt = record { path = _; is = refl }
short_has (suc (suc (suc (suc (suc zero))))) lt = record { path = _; is = refl }
short_has (suc (suc (suc (suc (suc (suc zero)))))) lt = record { path = _; is = refl }
short_has (suc (suc (suc (suc (suc (suc (suc zero))))))) lt = record { path = _; is = refl }
short_has (suc (suc (suc (suc (suc (suc (suc (suc n)))))))) lt = absurd (omega (arith, lt))

-- what bits add up to
abbrev bits_sum : List ℕ → ℕ → ℕ
bits_sum [] x = 0
bits_sum (i ∷ is) x = (if bit_in x i then 2 ^ i else 0) + bits_sum is x

bits_again : (ps is : List ℕ) (v x : ℕ) → Follows (bits_at ps is v) (bits_at_pairs ps is x) (v + bits_sum is x)
unfolding bits_at bits_at_pairs
bits_again ps [] v x = follows_end v (v + 0) (omega arith)
bits_again ps (i ∷ is) v x =
    let b : ℕ = if bit_in x i then 2 ^ i else 0 in
    let same : v + b + bits_sum is x ≡ v + (b + bits_sum is x) = omega arith in
    let P : ℕ → Type 0 = λ n. Follows (bits_at ps (i ∷ is) v) (bits_at_pairs ps (i ∷ is) x) n in
    subst P same (follows_bit (slice_index ps (9 + i)) (λ c. bits_at ps is (v + (if c then 2 ^ i else 0))) (bit_in x i) (bits_at_pairs ps is x) (v + b + bits_sum is x) (bits_again ps is (v + b) x))

bit_sum : (x i : ℕ) → (if bit_in x i then 2 ^ i else 0) ≡ (x / 2 ^ i) % 2 * 2 ^ i
bit_sum x i = elim (cases_lt ((x / 2 ^ i) % 2) 1) [
  | inl lt ↦ (let none : (x / 2 ^ i) % 2 ≡ 0 = omega (arith, lt) in rw (lt-leb 1 ((x / 2 ^ i) % 2) lt, none) (omega arith))
  | inr le ↦ (let some : (x / 2 ^ i) % 2 ≡ 1 = omega arith in rw (le-leb 1 ((x / 2 ^ i) % 2) le, some) (omega arith))
]

abbrev high_places : List ℕ
high_places = 0 ∷ 1 ∷ 2 ∷ 9 ∷ 8 ∷ 7 ∷ 6 ∷ 5 ∷ 4 ∷ []

-- one half after the other
half_bit : (x q r : ℕ) → q ≡ x / 2 → r ≡ x % 2 → x ≡ 2 * q + r
half_bit x q r e f = omega (arith, e, f)

bits_whole : (x : ℕ) → x < 1024 → bits_sum high_places x + x / 8 % 2 * 8 ≡ x
bits_whole x lt = rw (bit_sum x 0, bit_sum x 1, bit_sum x 2, bit_sum x 9, bit_sum x 8, bit_sum x 7, bit_sum x 6, bit_sum x 5, bit_sum x 4) (omega (arith, lt))

long_again : (ps : List ℕ) (x : ℕ) → 8 ≤ x → x < 1024 → Follows (long_size ps) (long_pairs ps x) x
unfolding long_size long_pairs
long_again ps x le lt =
    let v : ℕ = bits_sum high_places x in
    let whole : v + x / 8 % 2 * 8 ≡ x = bits_whole x lt in
    let none : 0 + v ≡ v = omega arith in
    let P : ℕ → Type 0 = λ n. Follows (bits_at ps high_places 0) (bits_at_pairs ps high_places x) n in
    follows_then (bits_at ps high_places 0) _ _ _ v x (subst P none (bits_again ps high_places 0 x)) (by_high (cases_lt x 16) v whole)
  where
    by_high : (x < 16) ⊎ (16 ≤ x) → (v : ℕ) → v + x / 8 % 2 * 8 ≡ x → Follows (if nat_lt v 16 then Done (v + 8) else bits_at ps (3 ∷ []) v) (if nat_lt x 16 then [] else bits_at_pairs ps (3 ∷ []) x) x
    by_high (inl low) v whole =
        let small : v < 16 = omega (arith, whole, low) in
        let same : v + 8 ≡ x = omega (arith, whole, low, le) in
        rw (lt-ltb v 16 small, lt-ltb x 16 low) (follows_end (v + 8) x same)
    by_high (inr high) v whole =
        let large : 16 ≤ v = omega (arith, whole, high) in
        let same : v + bits_sum (3 ∷ []) x ≡ x = ap (λ n. v + (n + 0)) (bit_sum x 3) ∙ omega (arith, whole) in
        let P : ℕ → Type 0 = λ n. Follows (bits_at ps (3 ∷ []) v) (bits_at_pairs ps (3 ∷ []) x) n in
        rw (le-ltb v 16 large, le-ltb x 16 high) (subst P same (bits_again ps (3 ∷ []) v x))

size_again : (ps : List ℕ) (x : ℕ) → x < 1024 → Follows (if not (nat_lt x 8) then long_size ps else leaf short_vector_entries (slice_range ps 2 9)) (size_pairs ps x) x
unfolding size_pairs
size_again ps x lt = elim (cases_lt x 8) [
  | inl low ↦ rw (lt-ltb x 8 low) (leaf_again short_vector_entries (slice_range ps 2 9) x (short_has x low))
  | inr high ↦ rw (le-ltb x 8 high) (long_again ps x high lt)
]

signed_again : (z : ℤ) → signed (unsigned_abs z) (is_negative z) ≡ z
signed_again (pos n) = refl
signed_again (negsuc n) = refl

-- a number without a size has no sign
no_sign : (z : ℤ) → not (unsigned_abs z == 0) ≡ false → is_negative z ≡ false
no_sign (pos n) e = refl
no_sign (negsuc n) e = absurd (wrong (suc n == 0) refl e)
  where
    wrong : (b : Bool) → (suc n == 0) ≡ b → not b ≡ false → ⊥
    wrong true f g = let h : suc n ≡ 0 = eqb-true _ _ f in absurd (omega (arith, h))
    wrong false f g = cc

-- a component
component_again : (ps : List ℕ) (z : ℤ) → unsigned_abs z ≤ 1023 → Follows (component ps) (component_pairs ps z) z
unfolding component component_pairs
component_again ps z le =
    let x : ℕ = unsigned_abs z in
    follows_then (one (slice_index ps 0)) _ _ _ (not (nat_lt x 8)) z (follows_one (slice_index ps 0) (not (nat_lt x 8)))
    (follows_then (if not (nat_lt x 8) then long_size ps else leaf short_vector_entries (slice_range ps 2 9)) _ _ _ x z (size_again ps x (omega (arith, le)))
    (follows_then (when (not (x == 0)) (one (slice_index ps 1)) false) _ _ _ (is_negative z) z (follows_when (not (x == 0)) (one (slice_index ps 1)) false (is_negative z) _ (λ e. follows_one (slice_index ps 1) (is_negative z)) (no_sign z))
    (follows_end (signed x (is_negative z)) z (signed_again z))))

-- how far a vector is from another
pub vector_again : (ps : List ℕ) (best v : Vector) → unsigned_abs (v.row -ℤ best.row) ≤ 1023 → unsigned_abs (v.column -ℤ best.column) ≤ 1023
    → Follows (read_vector ps) (vector_pairs ps best v) (vector (v.row -ℤ best.row) (v.column -ℤ best.column))
unfolding read_vector vector_pairs
vector_again ps best v a b =
    follows_then (component (slice_range ps 0 19)) _ _ _ (v.row -ℤ best.row) _ (component_again (slice_range ps 0 19) (v.row -ℤ best.row) a)
    (follows_then (component (slice_range ps 19 38)) _ _ _ (v.column -ℤ best.column) _ (component_again (slice_range ps 19 38) (v.column -ℤ best.column) b)
    (follows_done (vector (v.row -ℤ best.row) (v.column -ℤ best.column))))

far_again : (a b : ℤ) → a +ℤ (b -ℤ a) ≡ b
far_again a b = omega (arith, ints)

pub plus_again : (best v : Vector) → plus best (vector (v.row -ℤ best.row) (v.column -ℤ best.column)) ≡ v
plus_again best v =
    ap (λ (r : ℤ). vector r (best.column +ℤ (v.column -ℤ best.column))) (far_again best.row v.row) ∙ ap (λ (k : ℤ). vector v.row k) (far_again best.column v.column)
