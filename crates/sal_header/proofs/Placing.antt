-- Partitions placed one by one.
use Rattle.std.proofs.Common.{◌≡◌, ℕ, suc, zero, ◌+◌, ◌-◌, ◌*◌, ◌%◌, ◌^◌, ◌<◌, ◌≤◌, ◌∙◌, ◌≢◌, lit<, List, [], ◌∷◌, ◌++◌, Bool, true, false, refl, sym, ap, arith, append_assoc, subst, inl, inr, get_or, take, drop, set, length, replicate, Result, Ok, Err}
use Rattle.std.specs.Prelude.{nat_lt, if◌then◌else◌}
use Rattle.std.proofs.lemmas.Bool.{le-ltb, lt-ltb, cases_lt}
use Rattle.std.proofs.lemmas.List.{take_more_set, get_or-set_same, get_or-set_other, take_all, take-append-drop, drop-drop, drop-set-lt, length-drop, append-nil, drop-replicate}
use Rattle.sal_base.specs.declared.coding.Fault.{Fault}
use Rattle.sal_base.specs.declared.coding.Fault.TheVariants.{Partition}
use Rattle.std.proofs.Math.Nat.{pow-le-pow_right, one-le-pow, mod-eq_of_lt, lt_of_le_of_lt}
use Rattle.sal_header.specs.declared.tag.Tag.{Tag}
use Rattle.sal_header.specs.Tags.{placed, then_part, little, parts_of, head_length, bytes_at, parts_start, AreInside}

-- partitions, and what comes after them
abbrev pub after_parts : List (ℕ × ℕ) → Result (List (ℕ × ℕ)) Fault → Result (List (ℕ × ℕ)) Fault
after_parts ps (Ok qs) = Ok (ps ++ qs)
after_parts ps (Err f) = Err f

onward : (ps : List (ℕ × ℕ)) (p : ℕ × ℕ) (r : Result (List (ℕ × ℕ)) Fault) → after_parts ps (then_part p r) ≡ after_parts (ps ++ p ∷ []) r
onward ps p (Ok qs) = ap (λ (xs : List (ℕ × ℕ)). Ok xs) (sym (append_assoc ps (p ∷ []) qs))
onward ps p (Err f) = refl

placed_more : (bytes : List ℕ) (table k n at size : ℕ) → size ≡ little 3 bytes (table + 3 * k) → size ≤ length bytes - at
    → placed bytes table k (suc n) at ≡ then_part (at, size) (placed bytes table (k + 1) n (at + size))
unfolding placed
placed_more bytes table k n at size e le =
    let big : nat_lt (length bytes - at) (little 3 bytes (table + 3 * k)) ≡ false = le-ltb _ _ (omega (arith, e, le)) in
    ap (λ (b : Bool). if b then Err (Partition k) else then_part (at, little 3 bytes (table + 3 * k)) (placed bytes table (k + 1) n (at + little 3 bytes (table + 3 * k)))) big
    ∙ ap (λ m. then_part (at, m) (placed bytes table (k + 1) n (at + m))) (sym e)

placed_out : (bytes : List ℕ) (table k n at size : ℕ) → size ≡ little 3 bytes (table + 3 * k) → length bytes - at < size → placed bytes table k (suc n) at ≡ Err (Partition k)
unfolding placed
placed_out bytes table k n at size e lt =
    let big : nat_lt (length bytes - at) (little 3 bytes (table + 3 * k)) ≡ true = lt-ltb _ _ (omega (arith, e, lt)) in
    ap (λ (b : Bool). if b then Err (Partition k) else then_part (at, little 3 bytes (table + 3 * k)) (placed bytes table (k + 1) n (at + little 3 bytes (table + 3 * k)))) big

-- one more partition
pub next_placed : (bytes : List ℕ) (table k sized at size : ℕ) (ps : List (ℕ × ℕ)) (whole : Result (List (ℕ × ℕ)) Fault) → k < sized → k < length ps
    → size ≡ little 3 bytes (table + 3 * k) → size ≤ length bytes - at → whole ≡ after_parts (take k ps) (placed bytes table k (sized - k) at)
    → whole ≡ after_parts (take (k + 1) (set ps k (at, size))) (placed bytes table (k + 1) (sized - (k + 1)) (at + size))
next_placed bytes table k sized at size ps whole lt long e le h =
    let rest = placed bytes table (k + 1) (sized - (k + 1)) (at + size) in
    let n : sized - k ≡ suc (sized - (k + 1)) = omega arith in
    let here = ap (λ m. placed bytes table k m at) n ∙ placed_more bytes table k (sized - (k + 1)) at size e le in
    h ∙ (ap (λ (r : Result (List (ℕ × ℕ)) Fault). after_parts (take k ps) r) here ∙ (onward (take k ps) (at, size) rest ∙ ap (λ (xs : List (ℕ × ℕ)). after_parts xs rest) (sym (take_more_set ps k (at, size) long))))

pub placed_past : (bytes : List ℕ) (table k sized at size : ℕ) (ps : List (ℕ × ℕ)) (whole : Result (List (ℕ × ℕ)) Fault) → k < sized
    → size ≡ little 3 bytes (table + 3 * k) → length bytes - at < size → whole ≡ after_parts ps (placed bytes table k (sized - k) at) → whole ≡ Err (Partition k)
placed_past bytes table k sized at size ps whole lt e less h =
    let n : sized - k ≡ suc (sized - (k + 1)) = omega arith in
    h ∙ ap (λ (r : Result (List (ℕ × ℕ)) Fault). after_parts ps r) (ap (λ m. placed bytes table k m at) n ∙ placed_out bytes table k (sized - (k + 1)) at size e less)

pub placed_last : (bytes : List ℕ) (table k sized at : ℕ) (ps : List (ℕ × ℕ)) (whole : Result (List (ℕ × ℕ)) Fault) → sized ≤ k → k ≤ sized
    → whole ≡ after_parts (take k ps) (placed bytes table k (sized - k) at) → whole ≡ Ok (take sized ps ++ (at, length bytes - at) ∷ [])
unfolding placed
placed_last bytes table k sized at ps whole le ge h =
    let none : sized - k ≡ 0 = omega arith in
    let same : k ≡ sized = omega arith in
    h ∙ (ap (λ m. after_parts (take k ps) (placed bytes table k m at)) none ∙ ap (λ m. let r : Result (List (ℕ × ℕ)) Fault = Ok (take m ps ++ (at, length bytes - at) ∷ []) in r) same)

nothing_before : (r : Result (List (ℕ × ℕ)) Fault) → r ≡ after_parts [] r
nothing_before (Ok qs) = refl
nothing_before (Err f) = refl

pub placed_start : (bytes : List ℕ) (table sized at : ℕ) → placed bytes table 0 sized at ≡ after_parts [] (placed bytes table 0 (sized - 0) at)
placed_start bytes table sized at = let e : sized ≡ sized - 0 = omega arith in ap (λ n. placed bytes table 0 n at) e ∙ nothing_before (placed bytes table 0 (sized - 0) at)

pub few_parts : (n : ℕ) → n ≤ 3 → (1 ≤ 2 ^ n) × (2 ^ n ≤ 8)
few_parts n le = (one-le-pow n 2 (lit< tt), pow-le-pow_right (lit< tt) le)

pub count_is : (n : ℕ) → n ≤ 3 → 1 * 2 ^ n % 18446744073709551616 ≡ 2 ^ n
count_is n le =
    let few = (few_parts n le).1 in
    let same : 1 * 2 ^ n ≡ 2 ^ n = omega arith in
    ap (λ m. m % 18446744073709551616) same ∙ mod-eq_of_lt (lt_of_le_of_lt few (lit< tt))

-- all partitions, the last one after those whose sizes stand in the table
pub parts_there : (bytes : List ℕ) (tag : Tag) (log2 count table place size : ℕ) (at : List (ℕ × ℕ)) → count ≡ 2 ^ log2 → 1 ≤ count → table ≡ head_length tag.key + tag.size
    → 3 * (count - 1) ≤ length bytes - table → count - 1 < length at → size ≡ length bytes - place
    → placed bytes table 0 (count - 1) (table + 3 * (count - 1)) ≡ Ok (take (count - 1) at ++ (place, length bytes - place) ∷ []) → parts_of bytes tag log2 ≡ Ok (take count (set at (count - 1) (place, size)))
unfolding parts_of
parts_there bytes tag log2 count table place size at is some from enough long rest h =
    let t = head_length tag.key + tag.size in
    let fits : nat_lt (length bytes - t) (3 * (2 ^ log2 - 1)) ≡ false = le-ltb _ _ (omega (arith, is, from, enough)) in
    let same : placed bytes t 0 (2 ^ log2 - 1) (t + 3 * (2 ^ log2 - 1)) ≡ placed bytes table 0 (count - 1) (table + 3 * (count - 1)) = ap (λ n. placed bytes t 0 (n - 1) (t + 3 * (n - 1))) (sym is) ∙ ap (λ n. placed bytes n 0 (count - 1) (n + 3 * (count - 1))) (sym from) in
    let all : count ≡ count - 1 + 1 = omega arith in
    let last : take count (set at (count - 1) (place, size)) ≡ take (count - 1) at ++ (place, size) ∷ [] = ap (λ n. take n (set at (count - 1) (place, size))) all ∙ take_more_set at (count - 1) (place, size) long in
    let long_last : take (count - 1) at ++ (place, size) ∷ [] ≡ take (count - 1) at ++ (place, length bytes - place) ∷ [] = ap (λ n. take (count - 1) at ++ (place, n) ∷ []) rest in
    ap (λ (b : Bool). if b then Err (Partition 0) else placed bytes t 0 (2 ^ log2 - 1) (t + 3 * (2 ^ log2 - 1))) fits ∙ (same ∙ (h ∙ ap (λ (xs : List (ℕ × ℕ)). let r : Result (List (ℕ × ℕ)) Fault = Ok xs in r) (sym (last ∙ long_last))))

-- places and lengths before the end, and one more
pub inside_none : (end : ℕ) (ps : List (ℕ × ℕ)) → AreInside end ps 0
inside_none end ps k lt = absurd (omega (arith, lt))

pub inside_more : (end i at size : ℕ) (ps : List (ℕ × ℕ)) → i < length ps → at + size ≤ end → AreInside end ps i → AreInside end (set ps i (at, size)) (i + 1)
inside_more end i at size ps lt le h k less = elim (cases_lt k i) [
  | inl below ↦
      let other : k ≢ i = λ e. omega (arith, below, e) in
      let same : get_or (set ps i (at, size)) k (0, 0) ≡ get_or ps k (0, 0) = get_or-set_other ps i k (at, size) (0, 0) other in
      let P : ℕ × ℕ → Type 0 = λ x. x.0 + x.1 ≤ end in
      subst P (sym same) (h k below)
  | inr above ↦
      let e : k ≡ i = omega (arith, above, less) in
      let same : get_or (set ps i (at, size)) k (0, 0) ≡ (at, size) = ap (λ m. get_or (set ps i (at, size)) m (0, 0)) e ∙ get_or-set_same ps i (at, size) (0, 0) lt in
      let P : ℕ × ℕ → Type 0 = λ x. x.0 + x.1 ≤ end in
      subst P (sym same) le
]

-- the partitions that are placed have all bytes from the first place on
joined_more : (bytes : List ℕ) (k at size : ℕ) (b : Bool) (r : Result (List (ℕ × ℕ)) Fault) (ps : List (ℕ × ℕ)) → (if b then Err (Partition k) else then_part (at, size) r) ≡ Ok ps
    → ((qs : List (ℕ × ℕ)) → r ≡ Ok qs → bytes_at bytes qs ≡ drop (at + size) bytes) → bytes_at bytes ps ≡ drop at bytes
joined_more bytes k at size true r ps h later = cc
joined_more bytes k at size false (Err f) ps h later = cc
joined_more bytes k at size false (Ok qs) ps h later =
    let same : (at, size) ∷ qs ≡ ps = cc in
    let P : List (ℕ × ℕ) → Type 0 = λ xs. bytes_at bytes xs ≡ drop at bytes in
    let behind : bytes_at bytes qs ≡ drop size (drop at bytes) = later qs refl ∙ sym (drop-drop size at bytes) in
    subst P same (ap (λ (xs : List ℕ). take size (drop at bytes) ++ xs) behind ∙ take-append-drop size (drop at bytes))

joined : (bytes : List ℕ) (table k n at : ℕ) (ps : List (ℕ × ℕ)) → placed bytes table k n at ≡ Ok ps → bytes_at bytes ps ≡ drop at bytes
unfolding placed
joined bytes table k zero at ps h =
    let same : (at, length bytes - at) ∷ [] ≡ ps = cc in
    let P : List (ℕ × ℕ) → Type 0 = λ xs. bytes_at bytes xs ≡ drop at bytes in
    let e : length (drop at bytes) ≤ length bytes - at = omega (arith, length-drop at bytes) in
    subst P same (append-nil (take (length bytes - at) (drop at bytes)) ∙ take_all (length bytes - at) (drop at bytes) e)
joined bytes table k (suc n) at ps h =
    let size = little 3 bytes (table + 3 * k) in
    joined_more bytes k at size (nat_lt (length bytes - at) size) (placed bytes table (k + 1) n (at + size)) ps h (λ qs e. joined bytes table (k + 1) n (at + size) qs e)

pub all_joined : (bytes : List ℕ) (tag : Tag) (log2 : ℕ) (ps : List (ℕ × ℕ)) → parts_of bytes tag log2 ≡ Ok ps → bytes_at bytes ps ≡ drop (parts_start tag log2) bytes
unfolding parts_of
all_joined bytes tag log2 ps h = where_sized (nat_lt (length bytes - (head_length tag.key + tag.size)) (3 * (2 ^ log2 - 1))) h
  where
    where_sized : (b : Bool) → (if b then Err (Partition 0) else placed bytes (head_length tag.key + tag.size) 0 (2 ^ log2 - 1) (head_length tag.key + tag.size + 3 * (2 ^ log2 - 1))) ≡ Ok ps → bytes_at bytes ps ≡ drop (parts_start tag log2) bytes
    where_sized true h = cc
    where_sized false h = joined bytes (head_length tag.key + tag.size) 0 (2 ^ log2 - 1) _ ps h

-- the last partition ends where the bytes end
pub last_ends : (at : List (ℕ × ℕ)) (count place size end : ℕ) → 1 ≤ count → count - 1 < length at → size ≡ end - place → place ≤ end
    → (get_or (set at (count - 1) (place, size)) (count - 1) (0, 0)).0 + (get_or (set at (count - 1) (place, size)) (count - 1) (0, 0)).1 ≡ end
last_ends at count place size end some long is le =
    let P : ℕ × ℕ → Type 0 = λ x. x.0 + x.1 ≡ end in
    subst P (sym (get_or-set_same at (count - 1) (place, size) (0, 0) long)) (omega (arith, is, le))

pub none_left : (at : List (ℕ × ℕ)) (count place size : ℕ) → 1 ≤ count → drop count at ≡ drop count (replicate 8 (0, 0)) → drop count (set at (count - 1) (place, size)) ≡ replicate (8 - count) (0, 0)
none_left at count place size some h = drop-set-lt count at (count - 1) (place, size) (omega arith) ∙ (h ∙ drop-replicate count 8 (0, 0))
