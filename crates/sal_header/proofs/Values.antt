-- Single fields, by a decoder's numbers.
use Rattle.std.proofs.Common.{◌≡◌, ℕ, suc, zero, ◌+◌, ◌*◌, ◌<◌, ◌≤◌, ◌^◌, ◌==◌, if◌then◌else◌, ◌∙◌, ℤ, pos, negsuc, neg_ℤ, ◌-ℤ◌, List, [], ◌∷◌, ◌++◌, Bool, true, false, Some, None, refl, sym, ap, arith, subst, get_or, drop, take, set, drop-cons, add-one, append_assoc, length, to_z, of_z, w8, SFits, lit<}
use Rattle.std.proofs.lemmas.List.{drop_all, append-nil, length-set, drop-set-lt, take_more_set, take_more, take_all}
use Rattle.std.proofs.lemmas.Bool.{ne_eqb}
use Rattle.std.proofs.Math.Nat.{pow-le-pow_right, lt_of_lt_of_le}
use Rattle.std.proofs.lemmas.Int.{ints, to_z-of_z, to_z_pos}
use Rattle.sal_bool.specs.Reading.{Reading}
use Rattle.sal_bool.specs.Syntax.{Syntax, Done, ◌>>=◌, run, flag, literal, signed, signed_literal, when, flagged, optional, each, one}
use Rattle.sal_header.specs.Headers.{vector_probability}
use Rattle.sal_bool.proofs.Meaning.{run_on, run_done}

-- another name of the value that was read
pub as_read : {X : Type 0} (s : Syntax X) (r : Reading) (x x' : X) (r' : Reading) → run s r ≡ (x, r') → x ≡ x' → run s r ≡ (x', r')
as_read {X} s r x x' r' h e = let P : X → Type 0 = λ y. run s r ≡ (y, r') in subst P e h

-- a field that is there, and one that isn't
pub run_when : {X : Type 0} (b : Bool) (s : Syntax X) (d x : X) (r r' : Reading) → b ≡ true → run s r ≡ (x, r') → run (when b s d) r ≡ (x, r')
run_when true s d x r r' e h = h
run_when false s d x r r' e h = cc

pub run_unless : {X : Type 0} (b : Bool) (s : Syntax X) (d : X) (r : Reading) → b ≡ false → run (when b s d) r ≡ (d, r)
unfolding run
run_unless true s d r e = cc
run_unless false s d r e = refl

-- a field under its flag
pub run_flagged : {X : Type 0} (s : Syntax X) (d : X) (r : Reading) (b : Bool) (r1 : Reading) (x : X) (r2 : Reading) → run flag r ≡ (b, r1) → b ≡ true → run s r1 ≡ (x, r2) → run (flagged s d) r ≡ (x, r2)
run_flagged s d r b r1 x r2 f e h = run_on flag (λ c. when c s d) r b r1 f ∙ run_when b s d x r1 r2 e h

pub run_unflagged : {X : Type 0} (s : Syntax X) (d : X) (r : Reading) (b : Bool) (r1 : Reading) → run flag r ≡ (b, r1) → b ≡ false → run (flagged s d) r ≡ (d, r1)
run_unflagged s d r b r1 f e = run_on flag (λ c. when c s d) r b r1 f ∙ run_unless b s d r1 e

pub run_signed : (n : ℕ) (r : Reading) (size : ℕ) (r1 : Reading) (b : Bool) (r2 : Reading) → run (literal n) r ≡ (size, r1) → run flag r1 ≡ (b, r2) → run (signed_literal n) r ≡ (signed size b, r2)
unfolding signed_literal
run_signed n r size r1 b r2 h f = run_on (literal n) _ r size r1 h ∙ (run_on flag (λ c. Done (signed size c)) r1 b r2 f ∙ run_done (signed size b) r2)

run_each_on : {X Y : Type 0} (f : X → Syntax Y) (x : X) (xs : List X) (r : Reading) (y : Y) (r1 : Reading) (ys : List Y) (r2 : Reading) → run (f x) r ≡ (y, r1) → run (each f xs) r1 ≡ (ys, r2) → run (each f (x ∷ xs)) r ≡ (y ∷ ys, r2)
unfolding each
run_each_on f x xs r y r1 ys r2 h k = run_on (f x) _ r y r1 h ∙ (run_on (each f xs) _ r1 ys r2 k ∙ run_done (y ∷ ys) r2)

run_each_end : {X Y : Type 0} (f : X → Syntax Y) (r : Reading) → run (each f []) r ≡ ([], r)
unfolding each
run_each_end f r = run_done [] r

-- three values for an element each
pub run_three : {X Y : Type 0} (f : X → Syntax Y) (x : X) (r r1 r2 r3 : Reading) (y1 y2 y3 : Y)
    → run (f x) r ≡ (y1, r1) → run (f x) r1 ≡ (y2, r2) → run (f x) r2 ≡ (y3, r3) → run (each f (x ∷ x ∷ x ∷ [])) r ≡ (y1 ∷ y2 ∷ y3 ∷ [], r3)
run_three f x r r1 r2 r3 y1 y2 y3 a b c = run_each_on f x _ r y1 r1 _ r3 a (run_each_on f x _ r1 y2 r2 _ r3 b (run_each_on f x [] r2 y3 r3 [] r3 c (run_each_end f r3)))

-- a value as it is passed is the value
pub passed : (z : ℤ) → SFits w8 z → to_z w8 (of_z w8 z) ≡ z
passed z fits = to_z-of_z w8 z fits

pub sized : (n x : ℕ) → n ≤ 7 → x < 2 ^ n → x < 128
sized n x le lt = lt_of_lt_of_le lt (pow-le-pow_right (lit< tt) le)

pub positive : (n x : ℕ) → n ≤ 7 → x < 2 ^ n → pos x ≡ to_z w8 x
positive n x le lt = sym (to_z_pos w8 x (sized n x le lt))

pub negative : (n x : ℕ) → n ≤ 7 → x < 2 ^ n → neg_ℤ (pos x) ≡ to_z w8 (of_z w8 (pos 0 -ℤ to_z w8 x))
negative n zero le lt = refl
negative n (suc k) le lt =
    let small : suc k < 128 = sized n (suc k) le lt in
    let e : to_z w8 (suc k) ≡ pos (suc k) = to_z_pos w8 (suc k) small in
    let f : pos 0 -ℤ pos (suc k) ≡ negsuc k = omega (arith, ints) in
    sym (ap (λ (z : ℤ). to_z w8 (of_z w8 (pos 0 -ℤ z))) e ∙ (ap (λ (z : ℤ). to_z w8 (of_z w8 z)) f ∙ passed (negsuc k) (record { sfits = omega arith })))

-- what was read of a list so far: with what is read from here on it is all
abbrev pub IsReadUpTo : {X Y : Type 0} → (X → Syntax Y) → List X → ℕ → Reading → List Y → Reading → Type 0
IsReadUpTo {X} {Y} f xs i start so_far now = (more : List Y) (end : Reading) → run (each f (drop i xs)) now ≡ (more, end) → run (each f xs) start ≡ (so_far ++ more, end)

pub read_nothing : {X Y : Type 0} (f : X → Syntax Y) (xs : List X) (start : Reading) → IsReadUpTo f xs 0 start [] start
read_nothing f xs start more end h = h

pub read_one_more : {X Y : Type 0} (f : X → Syntax Y) (xs : List X) (d : X) (i : ℕ) (start : Reading) (so_far : List Y) (now : Reading) (y : Y) (then' : Reading) (further : List Y)
    → i < length xs → run (f (get_or xs i d)) now ≡ (y, then') → further ≡ so_far ++ y ∷ [] → IsReadUpTo f xs i start so_far now → IsReadUpTo f xs (i + 1) start further then'
read_one_more {X} {Y} f xs d i start so_far now y then' further lt h e before more end k =
    let here : drop i xs ≡ get_or xs i d ∷ drop (i + 1) xs = rw add-one (drop-cons xs i d lt) in
    let all = before (y ∷ more) end (ap (λ (zs : List X). run (each f zs) now) here ∙ run_each_on f (get_or xs i d) (drop (i + 1) xs) now y then' more end h k) in
    let same : so_far ++ y ∷ more ≡ further ++ more = sym (append_assoc so_far (y ∷ []) more) ∙ ap (λ (zs : List Y). zs ++ more) (sym e) in
    as_read (each f xs) start (so_far ++ y ∷ more) (further ++ more) end all same

pub read_to_end : {X Y : Type 0} (f : X → Syntax Y) (xs : List X) (i : ℕ) (start : Reading) (so_far : List Y) (now : Reading) (ys : List Y) → length xs ≤ i → so_far ≡ ys → IsReadUpTo f xs i start so_far now
    → run (each f xs) start ≡ (ys, now)
read_to_end {X} {Y} f xs i start so_far now ys le e before =
    let none : drop i xs ≡ [] = drop_all i xs le in
    let all = before [] now (ap (λ (zs : List X). run (each f zs) now) none ∙ run_each_end f now) in
    as_read (each f xs) start (so_far ++ []) ys now all (append-nil so_far ∙ e)

-- values that were updated up to place i
pub record IsUpdatedUpTo (s : Syntax ℤ) (xs : List ℤ) (i : ℕ) (start : Reading) (values : List ℤ) (now : Reading) : Type 0 where
  pub long : length values ≡ length xs
  pub same : drop i values ≡ drop i xs
  pub reads : IsReadUpTo (flagged s) xs i start (take i values) now

same_later : (xs ys : List ℤ) (i : ℕ) → i < length xs → length ys ≡ length xs → drop i ys ≡ drop i xs → (get_or ys i (pos 0) ≡ get_or xs i (pos 0)) × (drop (i + 1) ys ≡ drop (i + 1) xs)
same_later xs ys i lt long same =
    let a : drop i xs ≡ get_or xs i (pos 0) ∷ drop (i + 1) xs = rw add-one (drop-cons xs i (pos 0) lt) in
    let b : drop i ys ≡ get_or ys i (pos 0) ∷ drop (i + 1) ys = rw add-one (drop-cons ys i (pos 0) (omega (arith, lt, long))) in
    let c = sym b ∙ (same ∙ a) in
    (ap (λ (zs : List ℤ). get_or zs 0 (pos 0)) c, ap (λ (zs : List ℤ). drop 1 zs) c)

pub updated_none : (s : Syntax ℤ) (xs : List ℤ) (start : Reading) → IsUpdatedUpTo s xs 0 start xs start
updated_none s xs start = record { long = refl; same = refl; reads = read_nothing (flagged s) xs start }

pub updated_there : (s : Syntax ℤ) (xs : List ℤ) (i : ℕ) (start : Reading) (values : List ℤ) (now : Reading) (b : Bool) (r1 r2 : Reading) (v u : ℤ) → i < length xs → IsUpdatedUpTo s xs i start values now
    → run flag now ≡ (b, r1) → b ≡ true → run s r1 ≡ (v, r2) → u ≡ v → IsUpdatedUpTo s xs (i + 1) start (set values i u) r2
updated_there s xs i start values now b r1 r2 v u lt h f e k same =
    let inside : i < length values = omega (arith, lt, h.long) in
    let read = as_read (flagged s (get_or xs i (pos 0))) now v u r2 (run_flagged s (get_or xs i (pos 0)) now b r1 v r2 f e k) (sym same) in
    record {
      long = length-set values i u ∙ h.long;
      same = drop-set-lt (i + 1) values i u (omega arith) ∙ (same_later xs values i lt h.long h.same).1;
      reads = read_one_more (flagged s) xs (pos 0) i start (take i values) now u r2 (take (i + 1) (set values i u)) lt read (take_more_set values i u inside) h.reads;
    }

pub updated_not : (s : Syntax ℤ) (xs : List ℤ) (i : ℕ) (start : Reading) (values : List ℤ) (now : Reading) (b : Bool) (r1 : Reading) → i < length xs → IsUpdatedUpTo s xs i start values now
    → run flag now ≡ (b, r1) → b ≡ false → IsUpdatedUpTo s xs (i + 1) start values r1
updated_not s xs i start values now b r1 lt h f e =
    let inside : i < length values = omega (arith, lt, h.long) in
    let here = same_later xs values i lt h.long h.same in
    let read = as_read (flagged s (get_or xs i (pos 0))) now (get_or xs i (pos 0)) (get_or values i (pos 0)) r1 (run_unflagged s (get_or xs i (pos 0)) now b r1 f e) (sym here.0) in
    record {
      long = h.long;
      same = here.1;
      reads = read_one_more (flagged s) xs (pos 0) i start (take i values) now (get_or values i (pos 0)) r1 (take (i + 1) values) lt read (take_more values i (pos 0) inside) h.reads;
    }

pub updated_all : (s : Syntax ℤ) (xs : List ℤ) (i : ℕ) (start : Reading) (values : List ℤ) (now : Reading) → length xs ≤ i → IsUpdatedUpTo s xs i start values now → run (each (flagged s) xs) start ≡ (values, now)
updated_all s xs i start values now le h = read_to_end (flagged s) xs i start (take i values) now values le (take_all i values (omega (arith, le, h.long))) h.reads

pub updated_same : (s : Syntax ℤ) (xs : List ℤ) (i : ℕ) (start : Reading) (values values' : List ℤ) (now now' : Reading) → values' ≡ values → now' ≡ now → IsUpdatedUpTo s xs i start values now → IsUpdatedUpTo s xs i start values' now'
updated_same s xs i start values values' now now' e f h =
    let P : List ℤ → Type 0 = λ ys. IsUpdatedUpTo s xs i start ys now in
    let Q : Reading → Type 0 = λ r. IsUpdatedUpTo s xs i start values' r in
    subst Q (sym f) (subst P (sym e) h)

-- one more value put into its place
pub read_put : {X Y : Type 0} (f : X → Syntax Y) (xs : List X) (d : X) (i : ℕ) (start : Reading) (values : List Y) (now : Reading) (y : Y) (then' : Reading)
    → i < length xs → i < length values → run (f (get_or xs i d)) now ≡ (y, then') → IsReadUpTo f xs i start (take i values) now → IsReadUpTo f xs (i + 1) start (take (i + 1) (set values i y)) then'
read_put f xs d i start values now y then' lt inside h before = read_one_more f xs d i start (take i values) now y then' (take (i + 1) (set values i y)) lt h (take_more_set values i y inside) before

-- a value under a bit at a probability
pub run_optional : {X : Type 0} (p : ℕ) (s : Syntax X) (r : Reading) (b : Bool) (r1 : Reading) (x : X) (r2 : Reading) → run (one p) r ≡ (b, r1) → b ≡ true → run s r1 ≡ (x, r2) → run (optional p s) r ≡ (Some x, r2)
run_optional p s r true r1 x r2 h e k = run_on (one p) _ r true r1 h ∙ (run_on s (λ y. Done (Some y)) r1 x r2 k ∙ run_done (Some x) r2)
run_optional p s r false r1 x r2 h e k = cc

pub run_none : {X : Type 0} (p : ℕ) (s : Syntax X) (r : Reading) (b : Bool) (r1 : Reading) → run (one p) r ≡ (b, r1) → b ≡ false → run (optional p s) r ≡ (None, r1)
run_none p s r false r1 h e = run_on (one p) _ r false r1 h ∙ run_done None r1
run_none p s r true r1 h e = cc

-- a value, and what is made of it
pub run_made : {X Y : Type 0} (s : Syntax X) (f : X → Y) (r : Reading) (x : X) (y : Y) (r' : Reading) → run s r ≡ (x, r') → y ≡ f x → run (s >>= λ v. Done (f v)) r ≡ (y, r')
run_made s f r x y r' h e = run_on s (λ v. Done (f v)) r x r' h ∙ as_read (Done (f x)) r' (f x) y r' (run_done (f x) r') (sym e)

-- four values for an element each
pub run_four : {X Y : Type 0} (f : X → Syntax Y) (x : X) (r r1 r2 r3 r4 : Reading) (y1 y2 y3 y4 : Y)
    → run (f x) r ≡ (y1, r1) → run (f x) r1 ≡ (y2, r2) → run (f x) r2 ≡ (y3, r3) → run (f x) r3 ≡ (y4, r4) → run (each f (x ∷ x ∷ x ∷ x ∷ [])) r ≡ (y1 ∷ y2 ∷ y3 ∷ y4 ∷ [], r4)
run_four f x r r1 r2 r3 r4 y1 y2 y3 y4 a b c e = run_each_on f x _ r y1 r1 _ r4 a (run_three f x r1 r2 r3 r4 y2 y3 y4 b c e)

-- what seven bits say
pub value_of_zero : (x : ℕ) → x ≡ 0 → 1 ≡ vector_probability x
value_of_zero zero e = refl
value_of_zero (suc x) e = cc

pub value_of_more : (x : ℕ) → (x ≡ 0 → ⊥) → 2 * x ≡ vector_probability x
value_of_more x ne = let e : (x == 0) ≡ false = ne_eqb x 0 ne in sym (ap (λ b. if b then 1 else 2 * x) e)

-- five values as they are passed
pub passed_five : {X : Type 0} (f : ℤ → ℤ → ℤ → ℤ → ℤ → X) (a b c d e : ℤ) → SFits w8 a → SFits w8 b → SFits w8 c → SFits w8 d → SFits w8 e
    → f a b c d e ≡ f (to_z w8 (of_z w8 a)) (to_z w8 (of_z w8 b)) (to_z w8 (of_z w8 c)) (to_z w8 (of_z w8 d)) (to_z w8 (of_z w8 e))
passed_five f a b c d e ha hb hc hd he =
    ap (λ (z : ℤ). f z b c d e) (sym (passed a ha)) ∙ (ap (λ (z : ℤ). f (to_z w8 (of_z w8 a)) z c d e) (sym (passed b hb)) ∙ (ap (λ (z : ℤ). f (to_z w8 (of_z w8 a)) (to_z w8 (of_z w8 b)) z d e) (sym (passed c hc))
    ∙ (ap (λ (z : ℤ). f (to_z w8 (of_z w8 a)) (to_z w8 (of_z w8 b)) (to_z w8 (of_z w8 c)) z e) (sym (passed d hd)) ∙ ap (λ (z : ℤ). f (to_z w8 (of_z w8 a)) (to_z w8 (of_z w8 b)) (to_z w8 (of_z w8 c)) (to_z w8 (of_z w8 d)) z) (sym (passed e he)))))
