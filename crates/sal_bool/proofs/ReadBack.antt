-- What was written is read back where it was written.
use Rattle.std.proofs.Common.{◌≡◌, ℕ, ◌<◌, List, [], ◌∷◌, ◌++◌, Bool, true, false, refl, suc, zero, replicate, length, Option, Some, None, IfSome, subst, sym, ap, arith, ◌∙◌, lit≤}
use Rattle.sal_base.specs.Lists.{Each}
use Rattle.sal_bool.specs.Bits.{Interval, IsProper, bits_of, bit_at, start, next}
use Rattle.sal_bool.specs.Written.{written, steps, AreFit}
use Rattle.sal_bool.specs.Syntax.{Syntax, Done, Bit, Follows, byte, when, each, read}
use Rattle.sal_bool.specs.Pairs.{Pairs, pairs_when, all_pairs, each_pairs}
use Rattle.sal_bool.proofs.Laws.{Contains, contains_next, contains_narrow, contains_written, next_proper}
use Rattle.sal_bool.proofs.Meaning.{follows_then, follows_fit, steps_append}
use Rattle.sal_bool.proofs.Writing.{follows_done, follows_made}

-- a field that is read only where a flag says so has its default elsewhere
pub follows_when : {X : Type 0} (b : Bool) (s : Syntax X) (d x : X) (qs : Pairs) → (b ≡ true → Follows s qs x) → (b ≡ false → x ≡ d) → Follows (when b s d) (pairs_when b qs) x
unfolding Follows
follows_when true s d x qs h e = h refl
follows_when false s d x qs h e = sym (e refl)

-- a value for each element, whatever the elements are
pub follows_all : {X Y : Type 0} (f : X → Syntax Y) (g : Y → Pairs) (P : Y → Type 0) → ((x : X) (y : Y) → P y → Follows (f x) (g y) y) → (xs : List X) (ys : List Y) → length ys ≡ length xs → Each P ys → Follows (each f xs) (all_pairs g ys) ys
unfolding each all_pairs
follows_all f g P k [] [] e h = follows_done []
follows_all f g P k [] (y ∷ ys) e h = absurd (omega arith)
follows_all f g P k (x ∷ xs) [] e h = absurd (omega arith)
follows_all f g P k (x ∷ xs) (y ∷ ys) e h =
    follows_then (f x) _ (g y) (all_pairs g ys) y (y ∷ ys) (k x y h.0) (follows_made (each f xs) (λ zs. y ∷ zs) (all_pairs g ys) ys (follows_all f g P k xs ys (omega arith) h.1))

-- a value for the same element n times
pub follows_same : {X Y : Type 0} (f : X → Syntax Y) (g : Y → Pairs) (P : Y → Type 0) (d : X) → ((y : Y) → P y → Follows (f d) (g y) y) → (n : ℕ) (ys : List Y) → length ys ≡ n → Each P ys → Follows (each f (replicate n d)) (all_pairs g ys) ys
unfolding each all_pairs
follows_same f g P d k zero [] e h = follows_done []
follows_same f g P d k zero (y ∷ ys) e h = absurd (omega arith)
follows_same f g P d k (suc n) [] e h = absurd (omega arith)
follows_same f g P d k (suc n) (y ∷ ys) e h =
    follows_then (f d) _ (g y) (all_pairs g ys) y (y ∷ ys) (k y h.0) (follows_made (each f (replicate n d)) (λ zs. y ∷ zs) (all_pairs g ys) ys (follows_same f g P d k n ys (omega arith) h.1))

-- a value under the probability of its place
pub follows_places : {X Y : Type 0} (f : X → Syntax Y) (g : X → Y → Pairs) (P : Y → Type 0) → ((x : X) (y : Y) → P y → Follows (f x) (g x y) y) → (xs : List X) (ys : List Y) → length ys ≡ length xs → Each P ys → Follows (each f xs) (each_pairs g xs ys) ys
unfolding each each_pairs
follows_places f g P k [] [] e h = follows_done []
follows_places f g P k [] (y ∷ ys) e h = absurd (omega arith)
follows_places f g P k (x ∷ xs) [] e h = absurd (omega arith)
follows_places f g P k (x ∷ xs) (y ∷ ys) e h =
    follows_then (f x) _ (g x y) (each_pairs g xs ys) y (y ∷ ys) (k x y h.0) (follows_made (each f xs) (λ zs. y ∷ zs) (each_pairs g xs ys) ys (follows_places f g P k xs ys (omega arith) h.1))

pub of_some : {X : Type 0} (P : X → Type 0) (o : Option X) (x : X) → o ≡ Some x → IfSome o P → P x
of_some P None x e h = cc
of_some {X} P (Some y) x e h = let same : y ≡ x = cc in subst P same h

-- an interval that later bits lead from holds what they hold
pub contains_before : (bytes : List ℕ) (xs : List (ℕ × Bool)) (i : Interval) → IsProper i → AreFit xs → Contains (bits_of bytes) (steps i xs) → Contains (bits_of bytes) i
contains_before bytes [] i proper fit c = c
contains_before bytes (x ∷ xs) i proper fit c =
    let later = contains_before bytes xs (next i x.0 x.1) (next_proper i x.0 x.1 proper fit.0) fit.1 c in
    (contains_narrow bytes i x.0 x.1 proper fit.0 (contains_next bytes i x.0 x.1 later)).1

pub proper_after : (xs : List (ℕ × Bool)) (i : Interval) → IsProper i → AreFit xs → IsProper (steps i xs)
proper_after [] i proper fit = proper
proper_after (x ∷ xs) i proper fit = proper_after xs (next i x.0 x.1) (next_proper i x.0 x.1 proper fit.0) fit.1

pub fit_both : (xs ys : List (ℕ × Bool)) → AreFit xs → AreFit ys → AreFit (xs ++ ys)
fit_both [] ys a b = b
fit_both (x ∷ xs) ys a b = (a.0, fit_both xs ys a.1 b)

byte_small : (p : ℕ) → byte p < 256
byte_small p = omega arith

-- a number in the interval that pairs lead to is read as what they lead to, and no further
pub read_in : {X : Type 0} (s : Syntax X) (xs : List (ℕ × Bool)) (x : X) (bytes : List ℕ) (i : Interval) → IsProper i → Follows s xs x → Contains (bits_of bytes) (steps i xs) → read bytes i s ≡ (x, steps i xs)
unfolding Follows read
read_in {X} (Done z) [] x bytes i proper h c = ap (λ (v : X). let y : X × Interval = (v, i) in y) h
read_in (Done z) (q ∷ qs) x bytes i proper h c = absurd h
read_in (Bit p s) [] x bytes i proper h c = absurd h
read_in {X} (Bit p s) (q ∷ qs) x bytes i proper h c =
    let fit : q.0 < 256 = subst (λ (n : ℕ). n < 256) (sym h.0) (byte_small p) in
    let after = next_proper i q.0 q.1 proper fit in
    let later = read_in (s q.1) qs x bytes (next i q.0 q.1) after h.1 c in
    let inside = contains_before bytes qs (next i q.0 q.1) after (follows_fit (s q.1) qs x h.1) c in
    let here = contains_narrow bytes i q.0 q.1 proper fit (contains_next bytes i q.0 q.1 inside) in
    let whole : X × Interval = (x, steps (next i q.0 q.1) qs) in
    let P : ℕ → Type 0 = λ n. read bytes (next i n q.1) (s q.1) ≡ whole in
    let a : read bytes (next i (byte p) q.1) (s q.1) ≡ whole = subst P h.0 later in
    let e : bit_at bytes i (byte p) ≡ q.1 = ap (λ n. bit_at bytes i n) (sym h.0) ∙ here.0 in
    let Q : Bool → Type 0 = λ b. read bytes (next i (byte p) b) (s b) ≡ whole in
    subst Q (sym e) a

-- what was written among other bits is read where it was written
pub read_among : {X : Type 0} (s : Syntax X) (xs : List (ℕ × Bool)) (x : X) (before more : List (ℕ × Bool)) → Follows s xs x → AreFit before → AreFit more
    → read (written (steps (steps (steps start before) xs) more)) (steps start before) s ≡ (x, steps (steps start before) xs)
read_among s xs x before more h a b =
    let fit = follows_fit s xs x h in
    let at = steps start before in
    let first : IsProper start = record { low = lit≤ tt; high = lit≤ tt } in
    let proper = proper_after before start first a in
    let bytes = written (steps (steps at xs) more) in
    let same : steps start (before ++ (xs ++ more)) ≡ steps (steps at xs) more = steps_append before (xs ++ more) start ∙ steps_append xs more at in
    let P : Interval → Type 0 = λ i. Contains (bits_of (written i)) i in
    let inside : Contains (bits_of bytes) (steps (steps at xs) more) = subst P same (contains_written (before ++ (xs ++ more)) (fit_both before (xs ++ more) a (fit_both xs more fit b))) in
    read_in s xs x bytes at proper h (contains_before bytes more (steps at xs) (proper_after xs at proper fit) b inside)
