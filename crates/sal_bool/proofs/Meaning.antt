-- The laws of meanings: one after the other, by a decoder's numbers as by the exact number, and what is written is read.
use Rattle.std.proofs.Common.{◌≡◌, ℕ, suc, zero, ◌+◌, ◌*◌, ◌/◌, ◌^◌, ◌≤◌, ◌<◌, ◌∙◌, List, [], ◌∷◌, ◌++◌, Bool, true, false, length, replicate, refl, sym, ap, arith, subst, lit≤, drop, get_or, add-one, ◌&&◌, IsTrue, slice_index, drop-cons}
use Rattle.std.proofs.lemmas.Bool.{ltb-true}
use Rattle.std.proofs.lemmas.List.{drop_all}
use Rattle.std.proofs.Math.Nat.{pow-suc}
use Rattle.sal_tables.specs.Shape.{is_tree, all_go_on, leaves_below}
use Rattle.sal_tables.specs.declared.tree.Entry.{Entry}
use Rattle.sal_tables.specs.declared.tree.Entry.TheVariants.{Leaf, Pair}
use Rattle.sal_bool.specs.Reading.{Reading, next_bit, after_bit, StandsFor}
use Rattle.sal_bool.specs.Bits.{bits_of, Interval, IsProper, bit_at, next, start}
use Rattle.sal_bool.specs.Written.{steps, written, AreFit}
use Rattle.sal_bool.specs.Syntax.{Syntax, Done, Bit, ◌>>=◌, byte, read, run, Follows, number, walk, onward, entry_at, bit_of}
use Rattle.sal_bool.proofs.Laws.{next_proper, Contains, contains_next, contains_narrow, contains_written}
use Rattle.sal_bool.proofs.Standing.{stands_next}

-- a decoder reads one thing after the other
pub run_then : {X Y : Type 0} (s : Syntax X) (f : X → Syntax Y) (r : Reading) → run (s >>= f) r ≡ run (f (run s r).0) (run s r).1
unfolding run ◌>>=◌
run_then (Done x) f r = refl
run_then (Bit p s) f r = run_then (s (next_bit r (byte p))) f (after_bit r (byte p))

pub run_on : {X Y : Type 0} (s : Syntax X) (f : X → Syntax Y) (r : Reading) (x : X) (r' : Reading) → run s r ≡ (x, r') → run (s >>= f) r ≡ run (f x) r'
run_on s f r x r' h = run_then s f r ∙ ap (λ y. run (f y.0) y.1) h

pub run_done : {X : Type 0} (x : X) (r : Reading) → run (Done x) r ≡ (x, r)
unfolding run
run_done x r = refl

byte_small : (p : ℕ) → byte p < 256
byte_small p = omega arith

-- a decoder that stands for the exact number reads what the number says
pub run_exact : {X : Type 0} (s : Syntax X) (bytes : List ℕ) (i : Interval) (r : Reading) → StandsFor bytes i r
    → ((run s r).0 ≡ (read bytes i s).0) × StandsFor bytes (read bytes i s).1 (run s r).1
unfolding run read
run_exact (Done x) bytes i r st = (refl, st)
run_exact {X} (Bit p s) bytes i r st =
    let h = stands_next bytes i r (byte p) (byte_small p) st in
    let b = bit_at bytes i (byte p) in
    let later = run_exact (s b) bytes (next i (byte p) b) (after_bit r (byte p)) h.1 in
    let P : Bool → Type 0 = λ c. ((run (s c) (after_bit r (byte p))).0 ≡ (read bytes (next i (byte p) b) (s b)).0) × StandsFor bytes (read bytes (next i (byte p) b) (s b)).1 (run (s c) (after_bit r (byte p))).1 in
    subst P (sym h.0) later

-- pairs follow one after the other
pub follows_then : {X Y : Type 0} (s : Syntax X) (f : X → Syntax Y) (xs ys : List (ℕ × Bool)) (x : X) (y : Y)
    → Follows s xs x → Follows (f x) ys y → Follows (s >>= f) (xs ++ ys) y
unfolding Follows ◌>>=◌
follows_then {X} {Y} (Done z) f [] ys x y a b = let P : X → Type 0 = λ v. Follows (f v) ys y in subst P (sym a) b
follows_then (Done z) f (q ∷ qs) ys x y a b = absurd a
follows_then (Bit p s) f [] ys x y a b = absurd a
follows_then (Bit p s) f (q ∷ qs) ys x y a b = (a.0, follows_then (s q.1) f qs ys x y a.1 b)

-- the probabilities of pairs that follow are bytes
pub follows_fit : {X : Type 0} (s : Syntax X) (xs : List (ℕ × Bool)) (x : X) → Follows s xs x → AreFit xs
unfolding Follows
follows_fit (Done z) [] x h = tt
follows_fit (Done z) (q ∷ qs) x h = absurd h
follows_fit (Bit p s) [] x h = absurd h
follows_fit (Bit p s) (q ∷ qs) x h = (subst (λ (n : ℕ). n < 256) (sym h.0) (byte_small p), follows_fit (s q.1) qs x h.1)

-- a number in the interval that pairs lead to is read as what they lead to
follows_read : {X : Type 0} (s : Syntax X) (xs : List (ℕ × Bool)) (x : X) (bytes : List ℕ) (i : Interval) → IsProper i → Follows s xs x
    → Contains (bits_of bytes) (steps i xs) → ((read bytes i s).0 ≡ x) × Contains (bits_of bytes) i
unfolding Follows read
follows_read (Done z) [] x bytes i proper h c = (h, c)
follows_read (Done z) (q ∷ qs) x bytes i proper h c = absurd h
follows_read (Bit p s) [] x bytes i proper h c = absurd h
follows_read {X} (Bit p s) (q ∷ qs) x bytes i proper h c =
    let fit : q.0 < 256 = subst (λ (n : ℕ). n < 256) (sym h.0) (byte_small p) in
    let later = follows_read (s q.1) qs x bytes (next i q.0 q.1) (next_proper i q.0 q.1 proper fit) h.1 c in
    let here = contains_narrow bytes i q.0 q.1 proper fit (contains_next bytes i q.0 q.1 later.1) in
    let P : ℕ → Type 0 = λ n. (read bytes (next i n q.1) (s q.1)).0 ≡ x in
    let a : (read bytes (next i (byte p) q.1) (s q.1)).0 ≡ x = subst P h.0 later.0 in
    let e : bit_at bytes i (byte p) ≡ q.1 = ap (λ n. bit_at bytes i n) (sym h.0) ∙ here.0 in
    let Q : Bool → Type 0 = λ b. (read bytes (next i (byte p) b) (s b)).0 ≡ x in
    (subst Q (sym e) a, here.1)

-- what was written is read
pub read_back : {X : Type 0} (s : Syntax X) (xs : List (ℕ × Bool)) (x : X) → Follows s xs x → (read (written (steps start xs)) start s).0 ≡ x
read_back s xs x h =
    let proper : IsProper start = record { low = lit≤ tt; high = lit≤ tt } in
    (follows_read s xs x (written (steps start xs)) start proper h (contains_written xs (follows_fit s xs x h))).0

pub steps_append : (xs ys : List (ℕ × Bool)) (i : Interval) → steps i (xs ++ ys) ≡ steps (steps i xs) ys
steps_append [] ys i = refl
steps_append (x ∷ xs) ys i = steps_append xs ys (next i x.0 x.1)

-- a bit, and what follows it
pub run_bit : {X : Type 0} (p : ℕ) (s : Bool → Syntax X) (r : Reading) (b : Bool) (r' : Reading) → run (Bit p Done) r ≡ (b, r') → run (Bit p s) r ≡ run (s b) r'
unfolding run
run_bit p s r b r' h = ap (λ y. run (s y.0) y.1) h

-- a byte's bit, as the decoder has it
pub run_one : (p : ℕ) (r : Reading) (b : Bool) (r' : Reading) → p < 256 → b ≡ next_bit r p → r' ≡ after_bit r p → run (Bit p Done) r ≡ (b, r')
unfolding run
run_one p r b r' fits e f =
    let same : byte p ≡ p = omega arith in
    let P : ℕ → Type 0 = λ n. run (Bit n Done) r ≡ run (Bit n Done) r in
    ap (λ n. let x : Bool × Reading = (next_bit r n, after_bit r n) in x) same ∙ (ap (λ c. let x : Bool × Reading = (c, after_bit r p) in x) (sym e) ∙ ap (λ t. let x : Bool × Reading = (b, t) in x) (sym f))

-- one more bit of a number
pub number_step : (ps : List ℕ) (i v : ℕ) (r : Reading) (b : Bool) (r' : Reading) (end : ℕ × Reading) → i < length ps → run (Bit (get_or ps i 0) Done) r ≡ (b, r')
    → run (number (drop i ps) v) r ≡ end → run (number (drop (i + 1) ps) (2 * v + bit_of b)) r' ≡ end
unfolding number
number_step ps i v r b r' end lt h all =
    let e : drop i ps ≡ get_or ps i 0 ∷ drop (i + 1) ps = rw add-one (drop-cons ps i 0 lt) in
    sym (ap (λ xs. run (number xs v) r) e ∙ run_bit (get_or ps i 0) _ r b r' h) ∙ all

pub number_end : (ps : List ℕ) (i v : ℕ) (r : Reading) (end : ℕ × Reading) → length ps ≤ i → run (number (drop i ps) v) r ≡ end → run (Done v) r ≡ end
unfolding number
number_end ps i v r end le h = sym (ap (λ xs. run (number xs v) r) (drop_all i ps le)) ∙ h

-- one more bit on the way to a leaf
pub walk_step : (n m : ℕ) (es : List Entry) (ps : List ℕ) (at : ℕ) (r : Reading) (b : Bool) (r' : Reading) (end : ℕ × Reading) → n ≡ suc m → run (Bit (slice_index ps (at / 2)) Done) r ≡ (b, r')
    → run (walk n es ps at) r ≡ end → run (onward (walk m es ps) (entry_at es at b)) r' ≡ end
unfolding walk
walk_step n m es ps at r b r' end e h all = sym (ap (λ k. run (walk k es ps at) r) e ∙ run_bit (slice_index ps (at / 2)) _ r b r' h) ∙ all

pub walk_end : (n : ℕ) (es : List Entry) (ps : List ℕ) (at : ℕ) (r : Reading) (end : ℕ × Reading) → n ≡ 0 → run (walk n es ps at) r ≡ end → run (Done 0) r ≡ end
unfolding walk
walk_end n es ps at r end e h = sym (ap (λ k. run (walk k es ps at) r) e) ∙ h

both : (a b : Bool) → (a && b) ≡ true → (a ≡ true) × (b ≡ true)
both true true h = (refl, refl)
both true false h = cc
both false b h = cc

-- in a tree a pair leads to two entries
pairs_lead : (long at : ℕ) (es : List Entry) (i k : ℕ) → all_go_on long at es ≡ true → i < length es → get_or es i (Leaf 0) ≡ Pair k → k + 1 < long
pairs_lead long at [] i k h lt e = absurd (omega arith)
pairs_lead long at (Leaf l ∷ es) zero k h lt e = cc
pairs_lead long at (Pair n ∷ es) zero k h lt e =
    let p = both _ _ (both _ _ h).0 in
    let q = both _ _ p.0 in
    let same : n ≡ k = cc in
    let le : n + 1 < long = ltb-true _ _ q.1 in
    omega arith
pairs_lead long at (x ∷ es) (suc i) k h lt e = pairs_lead long (at + 1) es i k (both _ _ h).1 (omega arith) e

pub tree_pair : (es : List Entry) (i k : ℕ) → IsTrue (is_tree es) → i < length es → get_or es i (Leaf 0) ≡ Pair k → k + 1 < length es
tree_pair es i k t lt e = pairs_lead (length es) 0 es i k (both _ _ (both _ _ t).0).1 lt e

pub bit_small : (b : Bool) → bit_of b ≤ 1
bit_small true = lit≤ tt
bit_small false = lit≤ tt

pub leaf_small : (es : List Entry) (i l n : ℕ) → IsTrue (leaves_below n es) → i < length es → get_or es i (Leaf 0) ≡ Leaf l → l < n
leaf_small [] i l n h lt e = absurd (omega arith)
leaf_small (Leaf m ∷ es) zero l n h lt e = let same : m ≡ l = cc in let p : m < n = ltb-true _ _ (both _ _ h).0 in omega arith
leaf_small (Pair m ∷ es) zero l n h lt e = cc
leaf_small (Leaf m ∷ es) (suc i) l n h lt e = leaf_small es i l n (both _ _ h).1 (omega arith) e
leaf_small (Pair m ∷ es) (suc i) l n h lt e = leaf_small es i l n h (omega arith) e

pub zero_small : (es : List Entry) (n : ℕ) → IsTrue (leaves_below n es) → 0 < n
zero_small [] n h = ltb-true _ _ h
zero_small (Leaf l ∷ es) n h = zero_small es n (both _ _ h).1
zero_small (Pair k ∷ es) n h = zero_small es n h

-- what a decoder reads is what the exact number says
pub exact_of : {X : Type 0} (s : Syntax X) (r : Reading) (x : X) (r' : Reading) → run s r ≡ (x, r') → (bytes : List ℕ) (i : Interval) → StandsFor bytes i r
    → (x ≡ (read bytes i s).0) × StandsFor bytes (read bytes i s).1 r'
exact_of {X} s r x r' e bytes i st =
    let h = run_exact s bytes i r st in
    let P : X × Reading → Type 0 = λ y. (y.0 ≡ (read bytes i s).0) × StandsFor bytes (read bytes i s).1 y.1 in
    subst P e h

pub exact_bit : (p : ℕ) (r : Reading) (b : Bool) (r' : Reading) → p < 256 → b ≡ next_bit r p → r' ≡ after_bit r p → (bytes : List ℕ) (i : Interval) → StandsFor bytes i r
    → (b ≡ bit_at bytes i p) × StandsFor bytes (next i p b) r'
exact_bit p r b r' fits e f bytes i st =
    let h = stands_next bytes i r p fits st in
    let same : b ≡ bit_at bytes i p = e ∙ h.0 in
    let P : Bool × Reading → Type 0 = λ y. StandsFor bytes (next i p y.0) y.1 in
    let x : Bool × Reading = (bit_at bytes i p, after_bit r p) in
    let y : Bool × Reading = (b, r') in
    let q : x ≡ y = ap (λ c. let z : Bool × Reading = (c, after_bit r p) in z) (sym same) ∙ ap (λ t. let z : Bool × Reading = (b, t) in z) (sym f) in
    (same, subst P q h.1)

-- one more bit of a literal
pub literal_step : (n m v : ℕ) (r : Reading) (b : Bool) (r' : Reading) (end : ℕ × Reading) → n ≡ suc m → run (Bit 128 Done) r ≡ (b, r')
    → run (number (replicate n 128) v) r ≡ end → run (number (replicate m 128) (2 * v + bit_of b)) r' ≡ end
unfolding number
literal_step n m v r b r' end e h all = sym (ap (λ k. run (number (replicate k 128) v) r) e ∙ run_bit 128 _ r b r' h) ∙ all

pub literal_end : (n v : ℕ) (r : Reading) (end : ℕ × Reading) → n ≡ 0 → run (number (replicate n 128) v) r ≡ end → run (Done v) r ≡ end
unfolding number
literal_end n v r end e h = sym (ap (λ k. run (number (replicate k 128) v) r) e) ∙ h

-- one more bit of a number so far
pub one_more : (i v x : ℕ) → v + 1 ≤ 2 ^ i → x ≤ 1 → 2 * v + x + 1 ≤ 2 ^ (i + 1)
one_more i v x h le =
    let p : 2 ^ (i + 1) ≡ 2 * 2 ^ i = ap (λ k. 2 ^ k) (add-one i) ∙ (pow-suc 2 i ∙ omega arith) in
    omega (arith, p)
