-- Readings of what is left, from what calls consumed.
use Rattle.std.proofs.Common.{◌≡◌, ℕ, zero, suc, ◌+◌, ◌<◌, ◌≤◌, ◌≢◌, true, false, eqb, leb, List, [], ◌∷◌, ◌++◌, length, take, set, get_or, Option, Some, None, IfSome, refl, sym, ap, ◌∙◌, subst, arith, append_assoc, append-nil, take_at, drop_at, length-append, length-take-le}
use Rattle.std.proofs.lemmas.Bool.{le-leb, lt-leb, eqb-true}
use Rattle.std.proofs.lemmas.List.{take_more_set}
use Rattle.std.proofs.lemmas.Option.{none-some, same_Some}
use Rattle.std.specs.Io.KnownBytes.{Consumes}
use Rattle.std.proofs.KnownBytes.{Consumes-nil, Consumes-trans}
use Rattle.sal_io.specs.Told.{Reading, ReadsAs, Lacks, TakesUpTo, ◌>>=◌, block_at, NoNewline, line_within, Repeats, ToldRepeats, Front}

pub reads_then : {X Y : Type 0} (r : Reading X) (s : X × List ℕ → Option (Y × List ℕ)) (a b c : Option (List ℕ)) (x : X) (y : Y)
    → ReadsAs r a b x → ReadsAs (λ xs. s (x, xs)) b c y → ReadsAs (λ xs. r xs >>= s) a c y
reads_then r s None b c x y p q = tt
reads_then r s (Some xs) None c x y p q = absurd p
reads_then r s (Some xs) (Some ys) None x y p q = absurd q
reads_then r s (Some xs) (Some ys) (Some zs) x y p q = ap (λ o. o >>= s) p ∙ q

pub lacks_then : {X Y : Type 0} (r : Reading X) (s : X × List ℕ → Option (Y × List ℕ)) (a b : Option (List ℕ)) (x : X)
    → ReadsAs r a b x → Lacks (λ xs. s (x, xs)) b → Lacks (λ xs. r xs >>= s) a
lacks_then r s None b x p q = tt
lacks_then r s (Some xs) None x p q = absurd p
lacks_then r s (Some xs) (Some ys) x p q = ap (λ o. o >>= s) p ∙ q

pub lacks_first : {X Y : Type 0} (r : Reading X) (s : X × List ℕ → Option (Y × List ℕ)) (a : Option (List ℕ)) → Lacks r a → Lacks (λ xs. r xs >>= s) a
lacks_first r s None p = tt
lacks_first r s (Some xs) p = ap (λ o. o >>= s) p

-- ---- fronts

pub takes_none : (n : ℕ) (a : Option (List ℕ)) → TakesUpTo n a a
takes_none n a = ([], omega arith, Consumes-nil a)

pub takes_more : (m n : ℕ) (a b c : Option (List ℕ)) → TakesUpTo m a b → TakesUpTo n b c → TakesUpTo (m + n) a c
takes_more m n a b c p q = (p.0 ++ q.0, omega (arith, length-append p.0 q.0, p.1, q.1), Consumes-trans a b c p.0 q.0 p.2 q.2)

pub takes_within : (m n : ℕ) (a b : Option (List ℕ)) → m ≤ n → TakesUpTo m a b → TakesUpTo n a b
takes_within m n a b le p = (p.0, omega (arith, p.1), p.2)

-- a buffer's front after so many bytes
pub takes_piece : (m n size : ℕ) (a b c : Option (List ℕ)) (before buf : List ℕ) → length before ≤ m → n ≤ length buf → length buf ≡ size
    → Consumes a b before → Consumes b c (take n buf) → TakesUpTo (m + size) a c
takes_piece m n size a b c before buf le fits is p q =
    let long : length (take n buf) ≡ n = length-take-le n buf fits in
    takes_more m size a b c (before, le, p) (take n buf, omega (arith, long, fits, is), q)

-- ---- blocks

pub block_read : (a b : Option (List ℕ)) (bs : List ℕ) (n : ℕ) → length bs ≡ n → Consumes a b bs → ReadsAs (block_at n) a b bs
block_read None b bs n len p = tt
block_read (Some xs) None bs n len p = absurd p
block_read (Some xs) (Some ys) bs n len p =
    let enough : leb n (length (bs ++ ys)) ≡ true = le-leb _ _ (omega (arith, length-append bs ys)) in
    ap (block_at n) p ∙ rw (enough, take_at bs ys n len, drop_at bs ys n len) refl

pub block_lacks : (a : Option (List ℕ)) (bs : List ℕ) (n : ℕ) → length bs < n → IfSome a (λ xs. xs ≡ bs) → Lacks (block_at n) a
block_lacks None bs n short p = tt
block_lacks (Some xs) bs n short p =
    let few : leb n (length bs) ≡ false = lt-leb _ _ short in
    ap (block_at n) p ∙ rw few refl

-- ---- lines

not_ten : (b : ℕ) → b ≢ 10 → eqb b 10 ≡ false
not_ten b h = elim (eqb b 10) as (λ t. eqb b 10 ≡ t → t ≡ false) [ true ↦ λ e. absurd (h (eqb-true b 10 e)) | false ↦ λ e. refl ] refl

line_found : (n : ℕ) (front rest : List ℕ) → NoNewline front → length front < n → line_within n (front ++ 10 ∷ rest) ≡ Some (front, rest)
unfolding line_within
line_found zero front rest h lt = absurd (omega arith)
line_found (suc n) [] rest h lt = refl
line_found (suc n) (b ∷ front) rest h lt =
    rw (not_ten b h.0, line_found n front rest h.1 (omega arith)) refl

line_ends : (n : ℕ) (front : List ℕ) → NoNewline front → line_within n front ≡ None
unfolding line_within
line_ends zero front h = refl
line_ends (suc n) [] h = refl
line_ends (suc n) (b ∷ front) h = rw (not_ten b h.0, line_ends n front h.1) refl

line_long : (n : ℕ) (front rest : List ℕ) → NoNewline front → n ≤ length front → line_within n (front ++ rest) ≡ None
unfolding line_within
line_long zero front rest h le = refl
line_long (suc n) [] rest h le = absurd (omega arith)
line_long (suc n) (b ∷ front) rest h le = rw (not_ten b h.0, line_long n front rest h.1 (omega arith)) refl

pub NoNewline-push : (xs : List ℕ) (b : ℕ) → NoNewline xs → b ≢ 10 → NoNewline (xs ++ b ∷ [])
NoNewline-push [] b h ne = (ne, tt)
NoNewline-push (x ∷ xs) b h ne = (h.0, NoNewline-push xs b h.1 ne)

pub line_read : (a b : Option (List ℕ)) (n : ℕ) (front : List ℕ) → NoNewline front → length front < n → Consumes a b (front ++ 10 ∷ []) → ReadsAs (line_within n) a b front
line_read None b n front h lt p = tt
line_read (Some xs) None n front h lt p = absurd p
line_read (Some xs) (Some ys) n front h lt p = ap (line_within n) (p ∙ append_assoc front (10 ∷ []) ys) ∙ line_found n front ys h lt

pub line_cut : (a b : Option (List ℕ)) (n : ℕ) (front : List ℕ) → NoNewline front → Consumes a b front → IfSome b (λ xs. xs ≡ []) → Lacks (line_within n) a
line_cut None b n front h p end = tt
line_cut (Some xs) None n front h p end = absurd p
line_cut (Some xs) (Some ys) n front h p end = ap (line_within n) (p ∙ ap (λ (l : List ℕ). front ++ l) end ∙ append-nil front) ∙ line_ends n front h

pub line_over : (a b : Option (List ℕ)) (n : ℕ) (front : List ℕ) → NoNewline front → n ≤ length front → Consumes a b front → Lacks (line_within n) a
line_over None b n front h le p = tt
line_over (Some xs) None n front h le p = absurd p
line_over (Some xs) (Some ys) n front h le p = ap (line_within n) p ∙ line_long n front ys h le

one_of : (bs : List ℕ) → length bs ≡ 1 → bs ≡ get_or bs 0 0 ∷ []
one_of [] e = absurd (omega arith)
one_of (b ∷ []) e = refl
one_of (b ∷ c ∷ bs) e = absurd (omega arith)

-- one more byte was read
pub one_more : (a b c : Option (List ℕ)) (front one : List ℕ) (x : ℕ) → Consumes a b front → length one ≡ 1 → get_or one 0 0 ≡ x → Consumes b c one → Consumes a c (front ++ x ∷ [])
one_more a b c front one x p len is q = subst (λ (bs : List ℕ). Consumes a c (front ++ bs)) (one_of one len ∙ ap (λ (y : ℕ). y ∷ []) is) (Consumes-trans a b c front one p q)

pub none_more : (b : Option (List ℕ)) (one : List ℕ) (n : ℕ) → n < 1 → IfSome b (λ xs. xs ≡ take n one) → IfSome b (λ xs. xs ≡ [])
none_more None one n lt p = tt
none_more (Some xs) one zero lt p = p
none_more (Some xs) one (suc n) lt p = absurd (omega arith)

-- a read of one byte that took none
pub took_none : (a b c : Option (List ℕ)) (front one : List ℕ) (n : ℕ) → n < 1 → Consumes a b front → Consumes b c (take n one) → Consumes a c front
took_none a b c front one zero lt p q = subst (Consumes a c) (append-nil front) (Consumes-trans a b c front [] p q)
took_none a b c front one (suc n) lt p q = absurd (omega arith)

-- the same where none were taken before
pub none_at_start : (a b c : Option (List ℕ)) (line one : List ℕ) (i n : ℕ) → i ≡ 0 → n < 1 → Consumes a b (take i line) → Consumes b c (take n one) → Consumes a c []
none_at_start a b c line one i n zero_is lt p q = subst (λ (m : ℕ). Consumes a c (take m line)) zero_is (took_none a b c (take i line) one n lt p q)

-- the bytes before the end are all that was left
pub was_all : (a b : Option (List ℕ)) (front : List ℕ) → Consumes a b front → IfSome b (λ xs. xs ≡ []) → IfSome a (λ xs. xs ≡ front)
was_all None b front p end = tt
was_all (Some xs) None front p end = absurd p
was_all (Some xs) (Some ys) front p end = p ∙ ap (λ (l : List ℕ). front ++ l) end ∙ append-nil front

pub stored : (line : List ℕ) (i x : ℕ) (P : List ℕ → Type 0) → i < length line → P (take i line ++ x ∷ []) → P (take (i + 1) (set line i x))
stored line i x P lt p = subst P (sym (take_more_set line i x lt)) p

-- ---- repeated readings

Repeats-push : {X : Type 0} (read : Reading X) (xs : List X) (x : X) (a b c : List ℕ) → Repeats read a xs b → read b ≡ Some (x, c) → Repeats read a (xs ++ x ∷ []) c
Repeats-push read [] x a b c p q = (c, ap read p ∙ q, refl)
Repeats-push read (y ∷ xs) x a b c p q = (p.0, p.1, Repeats-push read xs x p.0 b c p.2 q)

pub repeats_none : {X : Type 0} (read : Reading X) (a : Option (List ℕ)) → ToldRepeats read a [] a
repeats_none read None = tt
repeats_none read (Some a) = refl

pub repeats_more : {X : Type 0} (read : Reading X) (xs : List X) (x : X) (a b c : Option (List ℕ)) → ToldRepeats read a xs b → ReadsAs read b c x → ToldRepeats read a (xs ++ x ∷ []) c
repeats_more read xs x None b c p q = tt
repeats_more read xs x (Some a) None c p q = absurd p
repeats_more read xs x (Some a) (Some b) None p q = absurd q
repeats_more read xs x (Some a) (Some b) (Some c) p q = Repeats-push read xs x a b c p q

-- all was read
pub repeats_all : {X : Type 0} (read : Reading X) (xs : List X) (a b : Option (List ℕ)) → ToldRepeats read a xs b → IfSome b (λ rest. rest ≡ []) → IfSome a (λ bytes. Repeats read bytes xs [])
repeats_all read xs None b p end = tt
repeats_all read xs (Some a) None p end = absurd p
repeats_all read xs (Some a) (Some b) p end = subst (Repeats read a xs) end p

-- nothing was read before the end
pub at_start : (a b : Option (List ℕ)) (line : List ℕ) (i : ℕ) → i ≡ 0 → Consumes a b (take i line) → IfSome b (λ xs. xs ≡ []) → IfSome a (λ xs. xs ≡ [])
at_start None b line i zero_is p end = tt
at_start (Some xs) None line i zero_is p end = absurd p
at_start (Some xs) (Some ys) line i zero_is p end = p ∙ ap (λ (n : ℕ). take n line ++ ys) zero_is ∙ end

-- ---- what stands in front is one list

front_heads : {X : Type 0} (read : Reading X) (bytes : List ℕ) (x y : X) (m n : List ℕ) → read bytes ≡ Some (x, m) → read bytes ≡ Some (y, n) → (x ≡ y) × (m ≡ n)
front_heads read bytes x y m n p q = let same : (x, m) ≡ (y, n) = same_Some _ _ (sym p ∙ q) in (ap (λ pair. pair.0) same, ap (λ pair. pair.1) same)

-- the values in front and what comes after them are determined
pub front_unique : {X : Type 0} (read : Reading X) (bytes : List ℕ) (xs ys : List X) (r s : List ℕ) → Front read bytes xs r → Front read bytes ys s → (xs ≡ ys) × (r ≡ s)
front_unique read bytes [] [] r s p q = (refl, sym p.0 ∙ q.0)
front_unique read bytes [] (y ∷ ys) r s p q = absurd (none-some _ (sym (ap read p.0 ∙ p.1) ∙ q.0.1))
front_unique read bytes (x ∷ xs) [] r s p q = absurd (none-some _ (sym (ap read q.0 ∙ q.1) ∙ p.0.1))
front_unique {X = X} read bytes (x ∷ xs) (y ∷ ys) r s p q =
    let heads = front_heads read bytes x y p.0.0 q.0.0 p.0.1 q.0.1 in
    let rest = front_unique read p.0.0 xs ys r s (p.0.2, p.1) (subst (λ (m : List ℕ). Front read m ys s) (sym heads.1) (q.0.2, q.1)) in
    (ap (λ (z : X). z ∷ xs) heads.0 ∙ ap (λ zs. y ∷ zs) rest.0, rest.1)
