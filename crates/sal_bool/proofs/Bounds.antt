-- How many bits a value takes at most, and how many bytes bits are written as.
use Rattle.std.proofs.Common.{◌≡◌, ℕ, suc, zero, ◌+◌, ◌*◌, ◌/◌, ◌≤◌, List, [], ◌∷◌, Bool, true, false, Option, Some, None, refl, subst, arith, length, replicate, nat_lt, if◌then◌else◌, max}
use Rattle.std.proofs.lemmas.List.{length-replicate}
use Rattle.sal_tables.specs.declared.tree.Entry.{Entry}
use Rattle.sal_tables.specs.declared.tree.Entry.TheVariants.{Leaf, Pair}
use Rattle.sal_bool.specs.Bits.{Interval, narrow, double, widen, next, start}
use Rattle.sal_bool.specs.Written.{steps, written, written_bytes, be_bytes}
use Rattle.sal_bool.specs.Syntax.{Syntax, Done, Bit, ◌>>=◌, Follows, one, flag, number, literal, signed_literal, when, flagged, optional, each, onward, entry_at, walk, bit_of, signed}
use Rattle.sal_bool.specs.Sizes.{TakesAtMost, bytes_at_most}

-- an interval is doubled at most seven times for a bit
doubled_once : (b : Bool) (i : Interval) → (if b then double i else i).k ≤ i.k + 1
doubled_once true i = omega arith
doubled_once false i = omega arith

widen_few : (n : ℕ) (i : Interval) → (widen n i).k ≤ i.k + n
unfolding widen
widen_few zero i = omega arith
widen_few (suc n) i =
    let a = widen_few n (if nat_lt i.range 128 then double i else i) in
    let b = doubled_once (nat_lt i.range 128) i in
    omega (arith, a, b)

narrow_same : (i : Interval) (p : ℕ) (b : Bool) → (narrow i p b).k ≡ i.k
narrow_same i p true = refl
narrow_same i p false = refl

next_few : (i : Interval) (p : ℕ) (b : Bool) → (next i p b).k ≤ i.k + 7
unfolding next
next_few i p b = let a = widen_few 7 (narrow i p b) in let e = narrow_same i p b in omega (arith, a, e)

pub steps_few : (xs : List (ℕ × Bool)) (i : Interval) → (steps i xs).k ≤ i.k + 7 * length xs
steps_few [] i = omega arith
steps_few (x ∷ xs) i = let a = steps_few xs (next i x.0 x.1) in let b = next_few i x.0 x.1 in omega (arith, a, b)

be_length : (n x : ℕ) → length (be_bytes n x) ≡ n
be_length zero x = refl
be_length (suc n) x = let a = be_length n x in omega (arith, a)

written_length : (i : Interval) → length (written i) ≡ written_bytes i
unfolding written
written_length i = be_length (written_bytes i) _

few_whole : (k n : ℕ) → k ≤ 7 * n → max 2 ((8 + k + 7) / 8) ≤ 2 + 7 * n / 8
few_whole k n le = omega arith

pub written_few : (xs : List (ℕ × Bool)) → length (written (steps start xs)) ≤ bytes_at_most (length xs)
written_few xs =
    let a = steps_few xs start in
    let b = written_length (steps start xs) in
    let c = few_whole (steps start xs).k (length xs) (omega (arith, a)) in
    omega (arith, b, c)

-- the bits of a value: those of its parts
pub takes_more : {X : Type 0} (s : Syntax X) (m n : ℕ) → m ≤ n → TakesAtMost s m → TakesAtMost s n
unfolding TakesAtMost
takes_more (Done x) m n le h = tt
takes_more (Bit p s) zero n le h = absurd h
takes_more (Bit p s) (suc m) zero le h = absurd (omega arith)
takes_more (Bit p s) (suc m) (suc n) le h = λ b. takes_more (s b) m n (omega arith) (h b)

pub takes_done : {X : Type 0} (x : X) (n : ℕ) → TakesAtMost (Done x) n
unfolding TakesAtMost
takes_done x n = tt

pub takes_bit : {X : Type 0} (p : ℕ) (s : Bool → Syntax X) (n : ℕ) → ((b : Bool) → TakesAtMost (s b) n) → TakesAtMost (Bit p s) (n + 1)
unfolding TakesAtMost
takes_bit p s n h = let same : suc n ≡ n + 1 = omega arith in let P : ℕ → Type 0 = λ k. TakesAtMost (Bit p s) k in subst P same h

pub takes_then : {X Y : Type 0} (s : Syntax X) (f : X → Syntax Y) (m n : ℕ) → TakesAtMost s m → ((x : X) → TakesAtMost (f x) n) → TakesAtMost (s >>= f) (m + n)
unfolding TakesAtMost ◌>>=◌
takes_then (Done x) f m n a b = takes_more (f x) n (m + n) (omega arith) (b x)
takes_then (Bit p s) f zero n a b = absurd a
takes_then (Bit p s) f (suc m) n a b =
    let same : suc (m + n) ≡ suc m + n = omega arith in
    let P : ℕ → Type 0 = λ k. TakesAtMost (Bit p (λ c. s c >>= f)) k in
    subst P same (λ c. takes_then (s c) f m n (a c) b)

pub takes_if : {X : Type 0} (b : Bool) (s t : Syntax X) (n : ℕ) → TakesAtMost s n → TakesAtMost t n → TakesAtMost (if b then s else t) n
takes_if true s t n a c = a
takes_if false s t n a c = c

pub takes_one : (p : ℕ) → TakesAtMost (one p) 1
unfolding TakesAtMost
takes_one p = λ b. tt

pub takes_number : (ps : List ℕ) (v : ℕ) → TakesAtMost (number ps v) (length ps)
unfolding number
takes_number [] v = takes_done v 0
takes_number (p ∷ ps) v =
    let same : length ps + 1 ≡ length (p ∷ ps) = omega arith in
    let P : ℕ → Type 0 = λ k. TakesAtMost (number (p ∷ ps) v) k in
    subst P same (takes_bit p (λ b. number ps (2 * v + bit_of b)) (length ps) (λ b. takes_number ps (2 * v + bit_of b)))

pub takes_literal : (n : ℕ) → TakesAtMost (literal n) n
unfolding literal
takes_literal n = let P : ℕ → Type 0 = λ k. TakesAtMost (number (replicate n 128) 0) k in subst P (length-replicate {A = ℕ} n 128) (takes_number (replicate n 128) 0)

pub takes_signed : (n : ℕ) → TakesAtMost (signed_literal n) (n + 1)
unfolding signed_literal
takes_signed n = takes_then (literal n) _ n 1 (takes_literal n) (λ size. takes_then flag _ 1 0 (takes_one 128) (λ negative. takes_done (signed size negative) 0))

pub takes_flagged : {X : Type 0} (s : Syntax X) (x : X) (n : ℕ) → TakesAtMost s n → TakesAtMost (flagged s x) (1 + n)
takes_flagged s x n h = takes_then flag (λ b. when b s x) 1 n (takes_one 128) (λ b. takes_if b s (Done x) n h (takes_done x n))

pub takes_optional : {X : Type 0} (p : ℕ) (s : Syntax X) (n : ℕ) → TakesAtMost s n → TakesAtMost (optional p s) (1 + n)
takes_optional {X} p s n h =
    let none : Option X = None in
    let some : Syntax (Option X) = s >>= λ x. Done (Some x) in
    let same : n + 0 ≡ n = omega arith in
    let P : ℕ → Type 0 = λ k. TakesAtMost some k in
    takes_then (one p) (λ b. if b then some else Done none) 1 n (takes_one p)
    (λ b. takes_if b some (Done none) n (subst P same (takes_then s (λ x. Done (Some x)) n 0 h (λ x. takes_done (Some x) 0))) (takes_done none n))

pub takes_each : {X Y : Type 0} (f : X → Syntax Y) (n : ℕ) → ((x : X) → TakesAtMost (f x) n) → (xs : List X) → TakesAtMost (each f xs) (length xs * n)
unfolding each
takes_each {X} {Y} f n h [] = let none : List Y = [] in takes_done none (0 * n)
takes_each f n h (x ∷ xs) =
    let same : n + (length xs * n + 0) ≡ length (x ∷ xs) * n = omega arith in
    let P : ℕ → Type 0 = λ k. TakesAtMost (each f (x ∷ xs)) k in
    subst P same (takes_then (f x) _ n (length xs * n + 0) (h x) (λ y. takes_then (each f xs) _ (length xs * n) 0 (takes_each f n h xs) (λ ys. takes_done (y ∷ ys) 0)))

takes_onward : (go : ℕ → Syntax ℕ) (n : ℕ) → ((k : ℕ) → TakesAtMost (go k) n) → (e : Entry) → TakesAtMost (onward go e) n
takes_onward go n h (Leaf l) = takes_done l n
takes_onward go n h (Pair k) = h k

-- a tree of n entries has no longer way
pub takes_walk : (n : ℕ) (es : List Entry) (ps : List ℕ) (at : ℕ) → TakesAtMost (walk n es ps at) n
unfolding walk TakesAtMost
takes_walk zero es ps at = tt
takes_walk (suc n) es ps at = λ b. takes_onward (walk n es ps) n (takes_walk n es ps) (entry_at es at b)

-- pairs that lead to a value are no more than its bits
pub follows_few : {X : Type 0} (s : Syntax X) (xs : List (ℕ × Bool)) (x : X) (n : ℕ) → TakesAtMost s n → Follows s xs x → length xs ≤ n
unfolding TakesAtMost Follows
follows_few (Done y) [] x n t h = omega arith
follows_few (Done y) (q ∷ qs) x n t h = absurd h
follows_few (Bit p s) [] x n t h = absurd h
follows_few (Bit p s) (q ∷ qs) x zero t h = absurd t
follows_few (Bit p s) (q ∷ qs) x (suc n) t h = let a = follows_few (s q.1) qs x n (t q.1) h.1 in omega (arith, a)
