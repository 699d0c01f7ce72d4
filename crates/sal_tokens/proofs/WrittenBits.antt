-- What is written of a token, its extra bits and its sign is read as that.
use Rattle.std.proofs.Common.{◌≡◌, ℕ, suc, zero, ◌+◌, ◌-◌, ◌*◌, ◌^◌, ◌%◌, ◌≤◌, ◌<◌, ◌∙◌, ℤ, pos, negsuc, List, [], ◌∷◌, Bool, true, false, not, ◌==◌, ◌&&◌, length, take, drop, get_or, refl, sym, ap, arith, subst, slice_index, slice_index_or, slice_range, unsigned_abs, inl, inr, Option, Some, lit<, lit≤}
use Rattle.std.proofs.lemmas.Bool.{lt-ltb, le-ltb, lt-leb, le-leb, ltb-true, cases_lt, ne_eqb}
use Rattle.std.proofs.lemmas.List.{get_or-take, get_or-drop}
use Rattle.std.proofs.Math.Nat.{mod-eq_of_lt}
use Rattle.sal_bool.specs.Syntax.{Done, ◌>>=◌, Follows, flag, number, signed, when, leaf_from, byte}
use Rattle.sal_bool.specs.Pairs.{Pairs, pair, number_pairs, is_negative, way, taken, bit_in}
use Rattle.sal_bool.proofs.Writing.{follows_done, follows_end, follows_one, follows_number, follows_made, follows_walk}
use Rattle.sal_tables.specs.Tables.{category_bases_of, category_bits_of}
use Rattle.sal_tables.specs.Trees.{token_entries}
use Rattle.sal_tokens.specs.Coefficients.{token_row, token_size, start_of}
use Rattle.sal_tokens.specs.Written.{ways, are_small, pairs_of, category_count, token_of, row_at, placed, token_branches, fixed, extra_branches, sign_branches}

abbrev way_from : Bool → ℕ → Option Pairs
way_from after t = way (length token_entries) token_entries (start_of after) t

-- the way from the root, and from the pair behind the end's
pub record Way (t : ℕ) (path : Pairs) : Type 0 where
  pub whole : way (length token_entries) token_entries 0 t ≡ Some path
  pub later : 0 < t → way (length token_entries) token_entries 2 t ≡ Some (drop 1 path)
  pub small : are_small path ≡ true
  pub long : 0 < length path

pub way_at : (t : ℕ) → t < 12 → Way t (get_or ways t [])
unfolding ways way token_entries
way_at zero lt = record { whole = refl; later = λ h. absurd (omega arith); small = refl; long = lit< tt }
way_at (suc zero) lt = record { whole = refl; later = λ h. refl; small = refl; long = lit< tt }
way_at (suc (suc zero)) lt = record { whole = refl; later = λ h. refl; small = refl; long = lit< tt }
way_at (suc (suc (suc zero))) lt = record { whole = refl; later = λ h. refl; small = refl; long = lit< tt }
way_at (suc (suc (suc (suc zero)))) lt = record { whole = refl; later = λ h. refl; small = refl; long = lit< tt }
way_at (suc (suc (suc (suc (suc zero))))) lt = record { whole = refl; later = λ h. refl; small = refl; long = lit< tt }
way_at (suc (suc (suc (suc (suc (suc zero)))))) lt = record { whole = refl; later = λ h. refl; small = refl; long = lit< tt }
way_at (suc (suc (suc (suc (suc (suc (suc zero))))))) lt = record { whole = refl; later = λ h. refl; small = refl; long = lit< tt }
way_at (suc (suc (suc (suc (suc (suc (suc (suc zero)))))))) lt = record { whole = refl; later = λ h. refl; small = refl; long = lit< tt }
way_at (suc (suc (suc (suc (suc (suc (suc (suc (suc zero))))))))) lt = record { whole = refl; later = λ h. refl; small = refl; long = lit< tt }
way_at (suc (suc (suc (suc (suc (suc (suc (suc (suc (suc zero)))))))))) lt = record { whole = refl; later = λ h. refl; small = refl; long = lit< tt }
way_at (suc (suc (suc (suc (suc (suc (suc (suc (suc (suc (suc zero))))))))))) lt = record { whole = refl; later = λ h. refl; small = refl; long = lit< tt }
way_at (suc (suc (suc (suc (suc (suc (suc (suc (suc (suc (suc (suc t)))))))))))) lt = absurd (omega arith)

pub both : (a b : Bool) → (a && b) ≡ true → (a ≡ true) × (b ≡ true)
both true true h = (refl, refl)
both true false h = cc
both false b h = cc

-- a probability of a row is one of all
row_place : (xs : List ℕ) (at i : ℕ) → i < 11 → slice_index (slice_range xs at (at + 11)) i ≡ slice_index xs (at + i)
row_place xs at i lt =
    let long : (at + 11) - at ≡ 11 = omega arith in
    ap (λ n. get_or (take n (drop at xs)) i 0) long ∙ (get_or-take 11 (drop at xs) i 0 lt ∙ get_or-drop at xs i 0)

pub placed_taken : (xs : List ℕ) (row : ℕ) (path : Pairs) → are_small path ≡ true → pairs_of xs (placed row (Some path)) ≡ taken (slice_range xs row (row + 11)) (Some path)
placed_taken xs row [] h = refl
placed_taken xs row (x ∷ path) h =
    let here = both _ _ h in
    let same : slice_index xs (row + x.0) ≡ slice_index (slice_range xs row (row + 11)) x.0 = sym (row_place xs row x.0 (ltb-true _ _ here.0)) in
    ap (λ p. pair p x.1 ∷ pairs_of xs (placed row (Some path))) same ∙ ap (λ (qs : Pairs). pair (slice_index (slice_range xs row (row + 11)) x.0) x.1 ∷ qs) (placed_taken xs row path here.1)

path_again : (xs : List ℕ) (row at t : ℕ) (path : Pairs) → way (length token_entries) token_entries at t ≡ Some path → are_small path ≡ true
    → Follows (leaf_from token_entries (slice_range xs row (row + 11)) at) (pairs_of xs (placed row (way (length token_entries) token_entries at t))) t
path_again xs row at t path is small =
    let h = follows_walk (length token_entries) token_entries (slice_range xs row (row + 11)) at t path is in
    let P : Pairs → Type 0 = λ qs. Follows (leaf_from token_entries (slice_range xs row (row + 11)) at) qs t in
    let Q : Option Pairs → Type 0 = λ o. P (pairs_of xs (placed row o)) in
    subst Q (sym is) (subst P (sym (placed_taken xs row path small)) h)

pub small_later : (path : Pairs) → are_small path ≡ true → are_small (drop 1 path) ≡ true
small_later [] h = h
small_later (x ∷ path) h = (both _ _ h).1

token_from : (xs : List ℕ) (row t : ℕ) (after : Bool) → t < 12 → (after ≡ true → 0 < t) → Follows (leaf_from token_entries (slice_range xs row (row + 11)) (start_of after)) (pairs_of xs (token_branches row after t)) t
unfolding token_branches
token_from xs row t false lt h = let w = way_at t lt in path_again xs row 0 t (get_or ways t []) w.whole w.small
token_from xs row t true lt h = let w = way_at t lt in path_again xs row 2 t (drop 1 (get_or ways t [])) (w.later (h refl)) (small_later (get_or ways t []) w.small)

-- a token at its eleven probabilities
pub token_again : (xs : List ℕ) (kind position context t : ℕ) (after : Bool) → t < 12 → (after ≡ true → 0 < t)
    → Follows (leaf_from token_entries (token_row xs kind position context) (start_of after)) (pairs_of xs (token_branches (row_at kind position context) after t)) t
unfolding token_row row_at
token_again xs kind position context t after lt h = token_from xs (row_at kind position context) t after lt h

-- the category of a size
pub record IsCategory (size k : ℕ) : Type 0 where
  pub some : 1 ≤ k
  pub few : k ≤ 6
  pub base : slice_index category_bases_of (k - 1) ≤ size
  pub below : size - slice_index category_bases_of (k - 1) < 2 ^ length (slice_index_or category_bits_of (k - 1) [])

IsCounted : ℕ → ℕ → Type 0
IsCounted size k = category_count size ≡ k

pub from_67 : (size : ℕ) → 67 ≤ size → category_count size ≡ 6
unfolding category_bases_of
from_67 size le = rw (le-leb 5 size (omega (arith, le)), le-leb 7 size (omega (arith, le)), le-leb 11 size (omega (arith, le)), le-leb 19 size (omega (arith, le)), le-leb 35 size (omega (arith, le)), le-leb 67 size le) refl

pub from_35 : (size : ℕ) → 35 ≤ size → size < 67 → category_count size ≡ 5
unfolding category_bases_of
from_35 size le lt = rw (le-leb 5 size (omega (arith, le)), le-leb 7 size (omega (arith, le)), le-leb 11 size (omega (arith, le)), le-leb 19 size (omega (arith, le)), le-leb 35 size le, lt-leb 67 size lt) refl

pub from_19 : (size : ℕ) → 19 ≤ size → size < 35 → category_count size ≡ 4
unfolding category_bases_of
from_19 size le lt = rw (le-leb 5 size (omega (arith, le)), le-leb 7 size (omega (arith, le)), le-leb 11 size (omega (arith, le)), le-leb 19 size le, lt-leb 35 size lt, lt-leb 67 size (omega (arith, lt))) refl

pub from_11 : (size : ℕ) → 11 ≤ size → size < 19 → category_count size ≡ 3
unfolding category_bases_of
from_11 size le lt = rw (le-leb 5 size (omega (arith, le)), le-leb 7 size (omega (arith, le)), le-leb 11 size le, lt-leb 19 size lt, lt-leb 35 size (omega (arith, lt)), lt-leb 67 size (omega (arith, lt))) refl

pub from_7 : (size : ℕ) → 7 ≤ size → size < 11 → category_count size ≡ 2
unfolding category_bases_of
from_7 size le lt = rw (le-leb 5 size (omega (arith, le)), le-leb 7 size le, lt-leb 11 size lt, lt-leb 19 size (omega (arith, lt)), lt-leb 35 size (omega (arith, lt)), lt-leb 67 size (omega (arith, lt))) refl

pub from_5 : (size : ℕ) → 5 ≤ size → size < 7 → category_count size ≡ 1
unfolding category_bases_of
from_5 size le lt = rw (le-leb 5 size le, lt-leb 7 size lt, lt-leb 11 size (omega (arith, lt)), lt-leb 19 size (omega (arith, lt)), lt-leb 35 size (omega (arith, lt)), lt-leb 67 size (omega (arith, lt))) refl

made : (size k : ℕ) → category_count size ≡ k → IsCategory size k → IsCategory size (category_count size)
made size k e h = let P : ℕ → Type 0 = λ n. IsCategory size n in subst P (sym e) h

category_5 : (size k : ℕ) → 5 ≤ size → size < 7 → IsCategory size 1
unfolding category_bases_of category_bits_of
category_5 size k le lt = record { some = lit≤ tt; few = lit≤ tt; base = le; below = omega (arith, le, lt) }

category_7 : (size : ℕ) → 7 ≤ size → size < 11 → IsCategory size 2
unfolding category_bases_of category_bits_of
category_7 size le lt = record { some = lit≤ tt; few = lit≤ tt; base = le; below = omega (arith, le, lt) }

category_11 : (size : ℕ) → 11 ≤ size → size < 19 → IsCategory size 3
unfolding category_bases_of category_bits_of
category_11 size le lt = record { some = lit≤ tt; few = lit≤ tt; base = le; below = omega (arith, le, lt) }

category_19 : (size : ℕ) → 19 ≤ size → size < 35 → IsCategory size 4
unfolding category_bases_of category_bits_of
category_19 size le lt = record { some = lit≤ tt; few = lit≤ tt; base = le; below = omega (arith, le, lt) }

category_35 : (size : ℕ) → 35 ≤ size → size < 67 → IsCategory size 5
unfolding category_bases_of category_bits_of
category_35 size le lt = record { some = lit≤ tt; few = lit≤ tt; base = le; below = omega (arith, le, lt) }

category_67 : (size : ℕ) → 67 ≤ size → size ≤ 2114 → IsCategory size 6
unfolding category_bases_of category_bits_of
category_67 size le lt = record { some = lit≤ tt; few = lit≤ tt; base = le; below = omega (arith, le, lt) }

pub is_category : (size : ℕ) → 5 ≤ size → size ≤ 2114 → IsCategory size (category_count size)
is_category size le most = elim (cases_lt size 7) [
  | inl lt ↦ made size 1 (from_5 size le lt) (category_5 size 0 le lt)
  | inr a ↦ elim (cases_lt size 11) [
    | inl lt ↦ made size 2 (from_7 size a lt) (category_7 size a lt)
    | inr b ↦ elim (cases_lt size 19) [
      | inl lt ↦ made size 3 (from_11 size b lt) (category_11 size b lt)
      | inr d ↦ elim (cases_lt size 35) [
        | inl lt ↦ made size 4 (from_19 size d lt) (category_19 size d lt)
        | inr e ↦ elim (cases_lt size 67) [
          | inl lt ↦ made size 5 (from_35 size e lt) (category_35 size e lt)
          | inr f ↦ made size 6 (from_67 size f) (category_67 size f most)
        ]
      ]
    ]
  ]
]

pub token_plain : (size : ℕ) → size < 5 → token_of size ≡ size + 1
unfolding token_of
token_plain size lt = rw (lt-ltb size 5 lt) refl

pub token_large : (size : ℕ) → 5 ≤ size → token_of size ≡ 5 + category_count size
unfolding token_of
token_large size le = rw (le-ltb size 5 le) refl

-- a token other than the end
pub record IsToken (t : ℕ) : Type 0 where
  pub some : 0 < t
  pub few : t < 12

pub is_token : (size : ℕ) → size ≤ 2114 → IsToken (token_of size)
is_token size most = elim (cases_lt size 5) [
  | inl lt ↦ let e = token_plain size lt in record { some = omega (arith, e); few = omega (arith, e, lt) }
  | inr le ↦
      let c = is_category size le most in
      let e = token_large size le in
      let few = c.few in
      record { some = omega (arith, e); few = omega (arith, e, few) }
]

-- fixed probabilities are passed on as they are
pub pairs_fixed : (xs ps : List ℕ) (x : ℕ) → pairs_of xs (fixed (number_pairs ps x)) ≡ number_pairs ps x
unfolding number_pairs
pairs_fixed xs [] x = refl
pairs_fixed xs (p ∷ ps) x =
    let once : byte (byte p) ≡ byte p = omega arith in
    ap (λ q. (q, bit_in x (length ps)) ∷ pairs_of xs (fixed (number_pairs ps x))) once ∙ ap (λ (qs : Pairs). pair p (bit_in x (length ps)) ∷ qs) (pairs_fixed xs ps x)

pub extra_none : (size : ℕ) → size < 5 → extra_branches size ≡ []
unfolding extra_branches
extra_none size lt = rw (lt-ltb size 5 lt) refl

pub extra_some : (size : ℕ) → 5 ≤ size
    → extra_branches size ≡ fixed (number_pairs (slice_index_or category_bits_of (category_count size - 1) []) (size - slice_index category_bases_of (category_count size - 1)))
unfolding extra_branches
extra_some size le = rw (le-ltb size 5 le) refl

size_small : (xs : List ℕ) (size : ℕ) → size < 5 → Follows (token_size (size + 1)) [] size
unfolding token_size
size_small xs size lt = rw (lt-ltb (size + 1) 6 (omega (arith, lt))) (follows_end (size + 1 - 1) size (omega arith))

size_large : (k size : ℕ) → IsCategory size k
    → Follows (token_size (5 + k)) (number_pairs (slice_index_or category_bits_of (k - 1) []) (size - slice_index category_bases_of (k - 1))) size
unfolding token_size
size_large k size c =
    let some = c.some in
    let at : 5 + k - 6 ≡ k - 1 = omega (arith, some) in
    let bits : List ℕ = slice_index_or category_bits_of (k - 1) [] in
    let least : ℕ = slice_index category_bases_of (k - 1) in
    let x : ℕ = size - least in
    let n = length bits in
    let exact : 0 * 2 ^ n + x % 2 ^ n ≡ x = let e : x % 2 ^ n ≡ x = mod-eq_of_lt c.below in omega (arith, e) in
    let P : ℕ → Type 0 = λ v. Follows (number bits 0) (number_pairs bits x) v in
    let h : Follows (number bits 0) (number_pairs bits x) x = subst P exact (follows_number bits 0 x) in
    let base = c.base in
    let whole : least + x ≡ size = omega (arith, base) in
    rw (le-ltb (5 + k) 6 (omega (arith, some)), at)
    (let Q : ℕ → Type 0 = λ v. Follows (number bits 0 >>= λ w. Done (least + w)) (number_pairs bits x) v in subst Q whole (follows_made (number bits 0) (λ w. least + w) (number_pairs bits x) x h))

-- a size's extra bits, after its token
pub size_again : (xs : List ℕ) (size : ℕ) → size ≤ 2114 → Follows (token_size (token_of size)) (pairs_of xs (extra_branches size)) size
size_again xs size most = elim (cases_lt size 5) [
  | inl lt ↦ rw (token_plain size lt, extra_none size lt) (size_small xs size lt)
  | inr le ↦ rw (token_large size le, extra_some size le, pairs_fixed xs (slice_index_or category_bits_of (category_count size - 1) []) (size - slice_index category_bases_of (category_count size - 1))) (size_large (category_count size) size (is_category size le most))
]

pub not_none : (n : ℕ) → (suc n == 0) ≡ false
not_none n = ne_eqb (suc n) 0 (λ e. omega (arith, e))

-- a sign, where the size isn't 0
pub sign_again : (xs : List ℕ) (z : ℤ) → Follows (when (not (unsigned_abs z == 0)) flag false) (pairs_of xs (sign_branches z)) (is_negative z)
unfolding sign_branches
sign_again xs (pos zero) = follows_done false
sign_again xs (pos (suc n)) = rw (not_none n) (follows_one 128 false)
sign_again xs (negsuc n) = rw (not_none n) (follows_one 128 true)

pub signed_again : (z : ℤ) → signed (unsigned_abs z) (is_negative z) ≡ z
signed_again (pos n) = refl
signed_again (negsuc n) = refl
