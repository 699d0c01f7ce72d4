-- Pairs put one after the other.
use Rattle.std.proofs.Common.{◌≡◌, ℕ, suc, zero, ◌+◌, ◌-◌, ◌<◌, ◌≤◌, ◌∙◌, ℤ, pos, negsuc, List, [], ◌∷◌, ◌++◌, Bool, true, false, refl, sym, ap, arith, get_or, drop, length, replicate, add-one, drop-cons, unsigned_abs, append_assoc, subst, is_ok, if◌then◌else◌, OnErr, Result, Ok, Err, Option, Some, None}
use Rattle.std.proofs.lemmas.List.{drop_all, length-replicate}
use Rattle.std.proofs.lemmas.Bool.{le-ltb}
use Rattle.std.specs.Int.Signed.{lt_z}
use Rattle.sal_bool.specs.Bits.{Interval, next}
use Rattle.sal_bool.specs.Written.{steps}
use Rattle.sal_bool.specs.Syntax.{byte}
use Rattle.sal_bool.specs.Pairs.{Pairs, pair, bit_in, number_pairs, literal_pairs, signed_pairs, flagged_pairs, flag_pairs, is_negative, all_pairs, each_pairs, optional_pairs}
use Rattle.sal_bool.specs.Put.{PutSome}
use Rattle.sal_bool.proofs.Meaning.{steps_append}

-- some pairs, and then others
pub both_put : (xs ys : Pairs) (i j k : Interval) → j ≡ steps i xs → k ≡ steps j ys → k ≡ steps i (xs ++ ys)
both_put xs ys i j k a b = b ∙ (ap (λ m. steps m ys) a ∙ sym (steps_append xs ys i))

-- pairs that lead from an interval to another
pub record Puts (i : Interval) (qs : Pairs) (k : Interval) : Type 0 where
  pub puts : k ≡ steps i qs

pub put_then : (xs ys : Pairs) (i j k : Interval) → j ≡ steps i xs → Puts j ys k → Puts i (xs ++ ys) k
put_then xs ys i j k a b = record { puts = both_put xs ys i j k a b.puts }

pub put_done : (i : Interval) → Puts i [] i
put_done i = record { puts = refl }

-- all that is to be put, with none of it put yet but the next one refused
pub none_put : (q : ℕ × Bool) (qs : Pairs) (i k : Interval) → k ≡ i → PutSome i (q ∷ qs) k
none_put q qs i k e = record { front = []; next = q; later = qs; all = refl; puts = e }

-- a bit that is refused
pub bit_some : {X E : Type 0} (p : ℕ) (b : Bool) (i k : Interval) (r : Result X E) → k ≡ (if is_ok r then next i p b else i) → OnErr r (PutSome i (pair p b ∷ []) k)
bit_some p b i k (Ok x) e = tt
bit_some p b i k (Err f) e = none_put (pair p b) [] i k e

-- what is so is so after a fault
pub refused : {X E P : Type 0} (r : Result X E) → P → OnErr r P
refused (Ok x) h = tt
refused (Err f) h = h

-- some of the first pairs, or all of them and some of the others
pub some_then : (xs ys : Pairs) (i k : Interval) → PutSome i xs k → PutSome i (xs ++ ys) k
some_then xs ys i k h =
    record { front = h.front; next = h.next; later = h.later ++ ys; all = ap (λ (zs : Pairs). zs ++ ys) h.all ∙ append_assoc h.front (h.next ∷ h.later) ys; puts = h.puts }

pub then_some : (xs ys : Pairs) (i j k : Interval) → j ≡ steps i xs → PutSome j ys k → PutSome i (xs ++ ys) k
then_some xs ys i j k e h =
    record { front = xs ++ h.front; next = h.next; later = h.later; all = ap (λ (zs : Pairs). xs ++ zs) h.all ∙ sym (append_assoc xs h.front (h.next ∷ h.later)); puts = both_put xs h.front i j k e h.puts }

pub some_same : (xs ys : Pairs) (i k : Interval) → xs ≡ ys → PutSome i xs k → PutSome i ys k
some_same xs ys i k e h = let P : Pairs → Type 0 = λ zs. PutSome i zs k in subst P e h

-- with these still to be put from here on it is all, and some of these are some of all
pub record Left (i : Interval) (qs : Pairs) (start : Interval) (whole : Pairs) : Type 0 where
  pub all : steps i qs ≡ steps start whole
  pub some : (k : Interval) → PutSome i qs k → PutSome start whole k

pub left_start : (i : Interval) (qs : Pairs) → Left i qs i qs
left_start i qs = record { all = refl; some = λ k h. h }

pub left_same : {s : Interval} {w : Pairs} (qs rs : Pairs) (i : Interval) → qs ≡ rs → Left i qs s w → Left i rs s w
left_same {s} {w} qs rs i e h = let P : Pairs → Type 0 = λ zs. Left i zs s w in subst P e h

left_put : {s : Interval} {w : Pairs} (xs ys : Pairs) (i j : Interval) → j ≡ steps i xs → Left i (xs ++ ys) s w → Left j ys s w
left_put xs ys i j e h =
    record { all = ap (λ m. steps m ys) e ∙ (sym (steps_append xs ys i) ∙ h.all); some = λ k more. h.some k (then_some xs ys i j k e more) }

left_some : {s : Interval} {w : Pairs} (xs ys : Pairs) (i k : Interval) → PutSome i xs k → Left i (xs ++ ys) s w → PutSome s w k
left_some xs ys i k more h = h.some k (some_then xs ys i k more)

-- one more bit of a literal
pub literal_start : (n x : ℕ) (e : Interval) → Left e (number_pairs (replicate (n - 0) 128) x) e (literal_pairs n x)
unfolding literal_pairs
literal_start n x e = let same : n ≡ n - 0 = omega arith in let P : ℕ → Type 0 = λ m. Left e (number_pairs (replicate m 128) x) e (literal_pairs n x) in subst P same (left_start e (literal_pairs n x))

literal_here : (n i x : ℕ) → i < n → number_pairs (replicate (n - i) 128) x ≡ flag_pairs (bit_in x (n - 1 - i)) ++ number_pairs (replicate (n - (i + 1)) 128) x
unfolding number_pairs
literal_here n i x lt =
    let m = n - (i + 1) in
    let more : n - i ≡ suc m = omega arith in
    let place : length (replicate m 128) ≡ n - 1 - i = length-replicate {A = ℕ} m 128 ∙ omega arith in
    ap (λ k. number_pairs (replicate k 128) x) more ∙ ap (λ k. flag_pairs (bit_in x k) ++ number_pairs (replicate m 128) x) place

pub literal_put : {s : Interval} {w : Pairs} (n i x : ℕ) (e e' : Interval) (b : Bool) → i < n → b ≡ bit_in x (n - 1 - i) → e' ≡ next e 128 b → Left e (number_pairs (replicate (n - i) 128) x) s w → Left e' (number_pairs (replicate (n - (i + 1)) 128) x) s w
literal_put n i x e e' b lt is put h =
    left_put (flag_pairs (bit_in x (n - 1 - i))) _ e e' (put ∙ ap (λ c. next e 128 c) is) (left_same _ _ e (literal_here n i x lt) h)

pub literal_some : {s : Interval} {w : Pairs} (n i x : ℕ) (e k : Interval) → i < n → k ≡ e → Left e (number_pairs (replicate (n - i) 128) x) s w → PutSome s w k
literal_some n i x e k lt same h =
    left_some (flag_pairs (bit_in x (n - 1 - i))) _ e k (none_put _ [] e k same) (left_same _ _ e (literal_here n i x lt) h)

pub literal_all : {s : Interval} {w : Pairs} (n i x : ℕ) (e : Interval) → n ≤ i → Left e (number_pairs (replicate (n - i) 128) x) s w → e ≡ steps s w
unfolding number_pairs
literal_all n i x e le h = let none : n - i ≡ 0 = omega arith in sym (ap (λ k. steps e (number_pairs (replicate k 128) x)) none) ∙ h.all

-- one more value of a list
values_here : {Y : Type 0} (f : Y → Pairs) (ys : List Y) (d : Y) (i : ℕ) → i < length ys → all_pairs f (drop i ys) ≡ f (get_or ys i d) ++ all_pairs f (drop (i + 1) ys)
unfolding all_pairs
values_here {Y} f ys d i lt =
    let here : drop i ys ≡ get_or ys i d ∷ drop (i + 1) ys = rw add-one (drop-cons ys i d lt) in
    ap (λ (zs : List Y). all_pairs f zs) here

pub values_put : {Y : Type 0} {s : Interval} {w : Pairs} (f : Y → Pairs) (ys : List Y) (d : Y) (i : ℕ) (e e' : Interval) → i < length ys → e' ≡ steps e (f (get_or ys i d)) → Left e (all_pairs f (drop i ys)) s w → Left e' (all_pairs f (drop (i + 1) ys)) s w
values_put f ys d i e e' lt put h = left_put (f (get_or ys i d)) _ e e' put (left_same _ _ e (values_here f ys d i lt) h)

pub values_some : {Y : Type 0} {s : Interval} {w : Pairs} (f : Y → Pairs) (ys : List Y) (d : Y) (i : ℕ) (e k : Interval) → i < length ys → PutSome e (f (get_or ys i d)) k → Left e (all_pairs f (drop i ys)) s w → PutSome s w k
values_some f ys d i e k lt more h = left_some (f (get_or ys i d)) _ e k more (left_same _ _ e (values_here f ys d i lt) h)

pub values_all : {Y : Type 0} {s : Interval} {w : Pairs} (f : Y → Pairs) (ys : List Y) (i : ℕ) (e : Interval) → length ys ≤ i → Left e (all_pairs f (drop i ys)) s w → e ≡ steps s w
unfolding all_pairs
values_all {Y} f ys i e le h = sym (ap (λ (zs : List Y). steps e (all_pairs f zs)) (drop_all i ys le)) ∙ h.all

-- one more value at the probability of its place
places_here : {X Y : Type 0} (g : X → Y → Pairs) (xs : List X) (ys : List Y) (c : X) (d : Y) (i : ℕ) → i < length xs → i < length ys
    → each_pairs g (drop i xs) (drop i ys) ≡ g (get_or xs i c) (get_or ys i d) ++ each_pairs g (drop (i + 1) xs) (drop (i + 1) ys)
unfolding each_pairs
places_here {X} {Y} g xs ys c d i lx ly =
    let a : drop i xs ≡ get_or xs i c ∷ drop (i + 1) xs = rw add-one (drop-cons xs i c lx) in
    let b : drop i ys ≡ get_or ys i d ∷ drop (i + 1) ys = rw add-one (drop-cons ys i d ly) in
    ap (λ (zs : List X). each_pairs g zs (drop i ys)) a ∙ ap (λ (zs : List Y). each_pairs g (get_or xs i c ∷ drop (i + 1) xs) zs) b

pub places_put : {X Y : Type 0} {s : Interval} {w : Pairs} (g : X → Y → Pairs) (xs : List X) (ys : List Y) (c : X) (d : Y) (i : ℕ) (e e' : Interval) → i < length xs → i < length ys → e' ≡ steps e (g (get_or xs i c) (get_or ys i d))
    → Left e (each_pairs g (drop i xs) (drop i ys)) s w → Left e' (each_pairs g (drop (i + 1) xs) (drop (i + 1) ys)) s w
places_put g xs ys c d i e e' lx ly put h = left_put (g (get_or xs i c) (get_or ys i d)) _ e e' put (left_same _ _ e (places_here g xs ys c d i lx ly) h)

pub places_some : {X Y : Type 0} {s : Interval} {w : Pairs} (g : X → Y → Pairs) (xs : List X) (ys : List Y) (c : X) (d : Y) (i : ℕ) (e k : Interval) → i < length xs → i < length ys → PutSome e (g (get_or xs i c) (get_or ys i d)) k
    → Left e (each_pairs g (drop i xs) (drop i ys)) s w → PutSome s w k
places_some g xs ys c d i e k lx ly more h = left_some (g (get_or xs i c) (get_or ys i d)) _ e k more (left_same _ _ e (places_here g xs ys c d i lx ly) h)

pub places_all : {X Y : Type 0} {s : Interval} {w : Pairs} (g : X → Y → Pairs) (xs : List X) (ys : List Y) (i : ℕ) (e : Interval) → length xs ≤ i → Left e (each_pairs g (drop i xs) (drop i ys)) s w → e ≡ steps s w
unfolding each_pairs
places_all {X} g xs ys i e le h = sym (ap (λ (zs : List X). steps e (each_pairs g zs (drop i ys))) (drop_all i xs le)) ∙ h.all

-- a signed number's size and sign
pub below_zero : (z : ℤ) → lt_z z (pos 0) ≡ is_negative z
below_zero (pos n) = le-ltb n 0 (omega arith)
below_zero (negsuc n) = refl

pub signed_put : (n u : ℕ) (z : ℤ) (b : Bool) (e e1 e2 : Interval) → u ≡ unsigned_abs z → b ≡ is_negative z → e1 ≡ steps e (literal_pairs n u) → e2 ≡ next e1 128 b → e2 ≡ steps e (signed_pairs n z)
unfolding signed_pairs
signed_put n u z b e e1 e2 size sign h k =
    both_put (literal_pairs n (unsigned_abs z)) (flag_pairs (is_negative z)) e e1 e2 (h ∙ ap (λ m. steps e (literal_pairs n m)) size) (k ∙ ap (λ c. next e1 128 c) sign)

pub flagged_zero : (n : ℕ) (z : ℤ) → z ≡ pos 0 → flag_pairs false ≡ flagged_pairs n z
unfolding flagged_pairs
flagged_zero n z e = sym (ap (λ (x : ℤ). flagged_pairs n x) e)

flagged_more : (n : ℕ) (z : ℤ) → (z ≡ pos 0 → ⊥) → flagged_pairs n z ≡ flag_pairs true ++ signed_pairs n z
unfolding flagged_pairs
flagged_more n (pos zero) ne = absurd (ne refl)
flagged_more n (pos (suc k)) ne = refl
flagged_more n (negsuc k) ne = refl

pub flagged_put : (n : ℕ) (z z' : ℤ) (e e1 e2 : Interval) → z' ≡ z → (z ≡ pos 0 → ⊥) → e1 ≡ next e 128 true → e2 ≡ steps e1 (signed_pairs n z') → e2 ≡ steps e (flagged_pairs n z)
flagged_put n z z' e e1 e2 same ne h k =
    both_put (flag_pairs true) (signed_pairs n z) e e1 e2 h (k ∙ ap (λ (x : ℤ). steps e1 (signed_pairs n x)) same) ∙ ap (λ qs. steps e qs) (sym (flagged_more n z ne))

-- where a signed number stops
pub signed_some : (n u : ℕ) (z : ℤ) (e k : Interval) → u ≡ unsigned_abs z → PutSome e (literal_pairs n u) k → PutSome e (signed_pairs n z) k
unfolding signed_pairs
signed_some n u z e k size h = some_then (literal_pairs n (unsigned_abs z)) (flag_pairs (is_negative z)) e k (some_same _ _ e k (ap (λ m. literal_pairs n m) size) h)

pub sign_some : (n u : ℕ) (z : ℤ) (b : Bool) (e e1 k : Interval) → u ≡ unsigned_abs z → b ≡ is_negative z → e1 ≡ steps e (literal_pairs n u) → PutSome e1 (flag_pairs b) k → PutSome e (signed_pairs n z) k
unfolding signed_pairs
sign_some n u z b e e1 k size sign h more =
    then_some (literal_pairs n (unsigned_abs z)) (flag_pairs (is_negative z)) e e1 k (h ∙ ap (λ m. steps e (literal_pairs n m)) size) (some_same _ _ e1 k (ap (λ c. flag_pairs c) sign) more)

pub flagged_some : (n : ℕ) (z : ℤ) (e k : Interval) → (z ≡ pos 0 → ⊥) → PutSome e (flag_pairs true) k → PutSome e (flagged_pairs n z) k
flagged_some n z e k ne h = some_same _ _ e k (sym (flagged_more n z ne)) (some_then (flag_pairs true) (signed_pairs n z) e k h)

pub flagged_then_some : (n : ℕ) (z z' : ℤ) (e e1 k : Interval) → z' ≡ z → (z ≡ pos 0 → ⊥) → e1 ≡ next e 128 true → PutSome e1 (signed_pairs n z') k → PutSome e (flagged_pairs n z) k
flagged_then_some n z z' e e1 k same ne h more =
    some_same _ _ e k (sym (flagged_more n z ne)) (then_some (flag_pairs true) (signed_pairs n z) e e1 k h (some_same _ _ e1 k (ap (λ (x : ℤ). signed_pairs n x) same) more))

-- where a value under a bit stops
pub optional_some : {X : Type 0} (p : ℕ) (f : X → Pairs) (o : Option X) (x : X) (i k : Interval) → o ≡ Some x → PutSome i (pair p true ∷ []) k → PutSome i (optional_pairs p f o) k
optional_some {X} p f o x i k e h = let P : Option X → Type 0 = λ v. PutSome i (optional_pairs p f v) k in subst P (sym e) (some_then (pair p true ∷ []) (f x) i k h)

pub optional_then_some : {X : Type 0} (p : ℕ) (f : X → Pairs) (o : Option X) (x : X) (i j k : Interval) → o ≡ Some x → j ≡ steps i (pair p true ∷ []) → PutSome j (f x) k → PutSome i (optional_pairs p f o) k
optional_then_some {X} p f o x i j k e a h = let P : Option X → Type 0 = λ v. PutSome i (optional_pairs p f v) k in subst P (sym e) (then_some (pair p true ∷ []) (f x) i j k a h)

pub optional_bit_some : {X : Type 0} (p : ℕ) (f : X → Pairs) (o : Option X) (x : X) (i j k : Interval) → p < 256 → o ≡ Some x → j ≡ next i p true → PutSome j (f x) k → PutSome i (optional_pairs p f o) k
optional_bit_some p f o x i j k fits e a h = let same : p ≡ byte p = omega arith in optional_then_some p f o x i j k e (a ∙ ap (λ n. next i n true) same) h

pub optional_none_some : {X Y E : Type 0} (p : ℕ) (f : X → Pairs) (o : Option X) (i k : Interval) (r : Result Y E) → o ≡ None → k ≡ (if is_ok r then next i p false else i) → OnErr r (PutSome i (optional_pairs p f o) k)
optional_none_some {X} p f o i k r e a = let P : Option X → Type 0 = λ v. OnErr r (PutSome i (optional_pairs p f v) k) in subst P (sym e) (bit_some p false i k r a)
