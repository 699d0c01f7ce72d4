-- Vectors that are read, step by step, by a decoder's numbers.
use Rattle.std.proofs.Common.{◌≡◌, ℕ, ◌+◌, ◌*◌, ◌^◌, ◌≤◌, ◌<◌, ◌==◌, ◌∙◌, ℤ, List, [], ◌∷◌, Bool, false, not, if◌then◌else◌, length, drop, get_or, slice_index, slice_range, drop-cons, add-one, refl, sym, ap, arith, subst, lit<, ◌%◌, ◌+ℤ◌, to_z, of_z, w16}
use Rattle.std.proofs.lemmas.List.{drop_all}
use Rattle.std.proofs.lemmas.Bool.{lt-ltb, le-ltb}
use Rattle.std.proofs.lemmas.Int.{ints}
use Rattle.std.proofs.Math.Nat.{pow-le-pow_right}
use Rattle.sal_bool.specs.Reading.{Reading}
use Rattle.sal_bool.specs.Syntax.{Bit, Done, run, one, signed, when, leaf}
use Rattle.sal_bool.proofs.Meaning.{run_on, run_done, run_bit}
use Rattle.sal_tables.specs.Trees.{short_vector_entries}
use Rattle.sal_macroblock.specs.Sizes.{Within}
use Rattle.sal_macroblock.specs.Macroblocks.{vector}
use Rattle.sal_modes.specs.ReadVectors.{bits_at, long_size, component, read_vector}

one_more : (ps is : List ℕ) (i v : ℕ) (r : Reading) (b : Bool) (r' : Reading) → run (Bit (slice_index ps (9 + i)) Done) r ≡ (b, r') → run (bits_at ps (i ∷ is) v) r ≡ run (bits_at ps is (v + (if b then 2 ^ i else 0))) r'
unfolding bits_at
one_more ps is i v r b r' h = run_bit (slice_index ps (9 + i)) (λ c. bits_at ps is (v + (if c then 2 ^ i else 0))) r b r' h

-- one more bit of a number
pub bits_more : (ps is : List ℕ) (k v x : ℕ) (r : Reading) (b : Bool) (r' : Reading) (end : ℕ × Reading) → k < length is → run (Bit (slice_index ps (9 + get_or is k 0)) Done) r ≡ (b, r') → x ≡ (if b then 2 ^ (get_or is k 0) else 0)
    → run (bits_at ps (drop k is) v) r ≡ end → run (bits_at ps (drop (k + 1) is) (v + x)) r' ≡ end
bits_more ps is k v x r b r' end lt h e before =
    let here : drop k is ≡ get_or is k 0 ∷ drop (k + 1) is = rw add-one (drop-cons is k 0 lt) in
    ap (λ n. run (bits_at ps (drop (k + 1) is) (v + n)) r') e ∙ (sym (one_more ps (drop (k + 1) is) (get_or is k 0) v r b r' h) ∙ (ap (λ js. run (bits_at ps js v) r) (sym here) ∙ before))

pub bits_all : (ps is : List ℕ) (k v : ℕ) (r : Reading) (end : ℕ × Reading) → length is ≤ k → run (bits_at ps (drop k is) v) r ≡ end → end ≡ (v, r)
unfolding bits_at
bits_all ps is k v r end le h = sym h ∙ (ap (λ js. run (bits_at ps js v) r) (drop_all k is le) ∙ run_done v r)

abbrev places : List ℕ
places = 0 ∷ 1 ∷ 2 ∷ 9 ∷ 8 ∷ 7 ∷ 6 ∷ 5 ∷ 4 ∷ []

-- a long size without its bit 3, and with it
pub long_below : (ps : List ℕ) (r : Reading) (v : ℕ) (r' : Reading) → run (bits_at ps places 0) r ≡ (v, r') → v < 16 → run (long_size ps) r ≡ (v + 8, r')
unfolding long_size
long_below ps r v r' h lt = run_on (bits_at ps places 0) _ r v r' h ∙ rw (lt-ltb v 16 lt) (run_done (v + 8) r')

pub long_above : (ps : List ℕ) (r : Reading) (v : ℕ) (r' : Reading) (end : ℕ × Reading) → run (bits_at ps places 0) r ≡ (v, r') → 16 ≤ v → run (bits_at ps (3 ∷ []) v) r' ≡ end → run (long_size ps) r ≡ end
unfolding long_size
long_above ps r v r' end h le k = run_on (bits_at ps places 0) _ r v r' h ∙ rw (le-ltb v 16 le) k

-- a component out of its parts
pub component_read : (ps : List ℕ) (r : Reading) (long : Bool) (r1 : Reading) (size : ℕ) (r2 : Reading) (negative : Bool) (r3 : Reading) (z : ℤ)
    → run (one (slice_index ps 0)) r ≡ (long, r1) → run (if long then long_size ps else leaf short_vector_entries (slice_range ps 2 9)) r1 ≡ (size, r2)
    → run (when (not (size == 0)) (one (slice_index ps 1)) false) r2 ≡ (negative, r3) → z ≡ signed size negative → run (component ps) r ≡ (z, r3)
unfolding component
component_read ps r long r1 size r2 negative r3 z hl hs hn e =
    run_on (one (slice_index ps 0)) _ r long r1 hl ∙ (run_on _ _ r1 size r2 hs ∙ (run_on _ _ r2 negative r3 hn ∙ (run_done _ r3 ∙ ap (λ (x : ℤ). let y : ℤ × Reading = (x, r3) in y) (sym e))))

-- row before column
pub vector_read : (ps : List ℕ) (r : Reading) (row : ℤ) (r1 : Reading) (column : ℤ) (r2 : Reading) → run (component (slice_range ps 0 19)) r ≡ (row, r1) → run (component (slice_range ps 19 38)) r1 ≡ (column, r2)
    → run (read_vector ps) r ≡ (vector row column, r2)
unfolding read_vector
vector_read ps r row r1 column r2 h k = run_on (component (slice_range ps 0 19)) _ r row r1 h ∙ (run_on (component (slice_range ps 19 38)) _ r1 column r2 k ∙ run_done (vector row column) r2)

-- a component as it is passed is the component
pub kept : (z x : ℤ) → z ≡ x → Within 5120 z → to_z w16 (of_z w16 z) ≡ x
kept z x e h = omega (arith, ints)

pub kept_small : (z : ℤ) → Within 5120 z → Within 5120 (to_z w16 (of_z w16 z))
kept_small z h = (omega (arith, ints), omega (arith, ints))

pub sum_kept : (x y : ℤ) → Within 5120 x → Within 5120 y → to_z w16 (of_z w16 (to_z w16 (of_z w16 x) +ℤ to_z w16 (of_z w16 y))) ≡ x +ℤ y
sum_kept x y h k =
    let f : to_z w16 (of_z w16 x) ≡ x = kept x x refl h in
    let g : to_z w16 (of_z w16 y) ≡ y = kept y y refl k in
    ap (λ (z : ℤ). to_z w16 (of_z w16 (z +ℤ to_z w16 (of_z w16 y)))) f ∙ (ap (λ (z : ℤ). to_z w16 (of_z w16 (x +ℤ z))) g ∙ sum_passed (x +ℤ y) x y refl h k)
  where
    sum_passed : (z x y : ℤ) → z ≡ x +ℤ y → Within 5120 x → Within 5120 y → to_z w16 (of_z w16 z) ≡ z
    sum_passed z x y e h k = omega (arith, ints)

pub same_vector : (x y z w : ℤ) → x ≡ z → y ≡ w → vector x y ≡ vector z w
same_vector x y z w e f = ap (λ (a : ℤ). vector a y) e ∙ ap (λ (b : ℤ). vector z b) f

-- a bit of a number is no more than that of place 9
pub bit_small : (i : ℕ) → i ≤ 9 → 1 * 2 ^ i % 4294967296 ≤ 512
bit_small i le = let p : 2 ^ i ≤ 2 ^ 9 = pow-le-pow_right (lit< tt) le in omega (arith, p)

pub sign_unread : (p size : ℕ) (r : Reading) → size ≡ 0 → run (when (not (size == 0)) (one p) false) r ≡ (false, r)
sign_unread p size r e = let P : ℕ → Type 0 = λ n. run (when (not (n == 0)) (one p) false) r ≡ (let x : Bool × Reading = (false, r) in x) in subst P (sym e) (run_done false r)
