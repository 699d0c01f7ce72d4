-- The places of faults, and the count of what was taken.
use Rattle.std.proofs.Common.{◌≡◌, ℕ, suc, ◌+◌, ◌-◌, ◌^◌, ◌<◌, ◌≤◌, List, [], ◌∷◌, ◌++◌, length, Option, Some, None, refl, sym, ap, ◌∙◌, arith, length-append, append_assoc, append-nil, le_refl, Bool, true, false}
use Rattle.std.specs.Prelude.{nat_le, if◌then◌else◌}
use Rattle.std.proofs.lemmas.Bool.{le-leb, lt-leb}
use Rattle.std.specs.Io.KnownBytes.{Consumes}
use Rattle.std.proofs.KnownBytes.{Consumes-nil, Consumes-trans}
use Rattle.sal_io.specs.Told.{NoNewline, line_within}
use Rattle.sal_io.proofs.ToldLemmas.{line_read, line_cut, line_over}
use Rattle.sal_y4m.specs.declared.fault.Flaw.{Flaw}
use Rattle.sal_y4m.specs.declared.fault.Why.{Why}
use Rattle.sal_y4m.specs.declared.fault.Why.TheVariants.{Line, Cut}
use Rattle.sal_y4m.specs.Grammar.{cut, line_flaw}
use Rattle.sal_y4m.specs.Answers.{counted, Counts, IsAt}

-- ---- the count

pub counted_none : (before : ℕ) → before < 2 ^ 64 → before ≡ counted before 0
counted_none before lt = omega arith

pub counted_more : (before m n : ℕ) → counted (counted before m) n ≡ counted before (m + n)
counted_more before m n = omega arith

pub counts_none : (before : ℕ) (a : Option (List ℕ)) → before < 2 ^ 64 → Counts before before a a
counts_none before a lt = ([], Consumes-nil a, counted_none before lt)

-- what is taken first, and then
pub counts_then : (before mid now : ℕ) (a b c : Option (List ℕ)) → Counts before mid a b → Counts mid now b c → Counts before now a c
counts_then before mid now a b c p q =
    (p.0 ++ q.0, Consumes-trans a b c p.0 q.0 p.1 q.1, q.2 ∙ ap (λ (k : ℕ). counted k (length q.0)) p.2 ∙ counted_more before (length p.0) (length q.0) ∙ ap (counted before) (sym (length-append p.0 q.0)))

-- a place, counted from what stands before
pub place_later : (before mid : ℕ) (xs ys front : List ℕ) (flaw : Flaw) (place : ℕ) (why : Why) → flaw.left ≤ length ys → xs ≡ front ++ ys → mid ≡ counted before (length front) → IsAt mid ys flaw place why → IsAt before xs flaw place why
place_later before mid xs ys front flaw place why le is count at =
    let long : length xs ≡ length front + length ys = ap length is ∙ length-append front ys in
    let gap : length front + (length ys - flaw.left) ≡ length xs - flaw.left = omega (arith, long, le) in
    (at.0 ∙ ap (λ (k : ℕ). counted k (length ys - flaw.left)) count ∙ counted_more before (length front) (length ys - flaw.left) ∙ ap (counted before) gap, at.1)

-- ---- flaws

-- a flaw at the front
pub at_front : (before : ℕ) (xs : List ℕ) (why : Why) → before < 2 ^ 64 → IsAt before xs (record { left = length xs; why = why }) before why
at_front before xs why lt = (omega arith, refl)

-- a cut at the end
pub at_end : (before n : ℕ) (xs : List ℕ) → length xs ≡ n → IsAt before xs cut (counted before n) Cut
at_end before n xs long = (ap (counted before) (omega (arith, long)), refl)

pub too_long : (xs : List ℕ) → 256 ≤ length xs → line_flaw xs ≡ record { left = length xs; why = Line }
too_long xs le = rw (le-leb 256 (length xs) le) refl

pub cut_short : (xs : List ℕ) → length xs < 256 → line_flaw xs ≡ cut
cut_short xs lt = rw (lt-leb 256 (length xs) lt) refl

pub line_flaw_within : (bytes : List ℕ) → (line_flaw bytes).left ≤ length bytes
line_flaw_within bytes = either (nat_le 256 (length bytes))
  where
    either : (b : Bool) → (if b then record { left = length bytes; why = Line } else cut).left ≤ length bytes
    either true = le_refl (length bytes)
    either false = omega arith

-- ---- lines

-- a line and what comes after its newline
pub line_of : (xs ys line : List ℕ) → xs ≡ (line ++ 10 ∷ []) ++ ys → xs ≡ line ++ 10 ∷ ys
line_of xs ys line p = p ∙ append_assoc line (10 ∷ []) ys

pub line_there : (xs ys line : List ℕ) → NoNewline line → length line < 256 → xs ≡ (line ++ 10 ∷ []) ++ ys → line_within 256 xs ≡ Some (line, ys)
line_there xs ys line plain lt p = line_read (Some xs) (Some ys) 256 line plain lt p

pub line_not_ended : (xs : List ℕ) → NoNewline xs → line_within 256 xs ≡ None
line_not_ended xs plain = line_cut (Some xs) (Some []) 256 xs plain (sym (append-nil xs)) refl

pub line_too_long : (xs ys line : List ℕ) → NoNewline line → 256 ≤ length line → xs ≡ line ++ ys → line_within 256 xs ≡ None
line_too_long xs ys line plain le p = line_over (Some xs) (Some ys) 256 line plain le p

pub line_size : (xs ys line : List ℕ) → xs ≡ (line ++ 10 ∷ []) ++ ys → length xs ≡ length line + suc (length ys)
line_size xs ys line p = ap length (line_of xs ys line p) ∙ length-append line (10 ∷ ys)

pub count_line : (before now n : ℕ) (old new : Option (List ℕ)) (line : List ℕ) → length line ≡ n → now ≡ counted before (n + 1) → Consumes old new (line ++ 10 ∷ []) → Counts before now old new
count_line before now n old new line long count taken =
    (line ++ 10 ∷ [], taken, count ∙ ap (counted before) (omega (arith, long, length-append line (10 ∷ []))))

-- ---- the place in the whole input

-- a flaw of what is left lies as far from the start of the input
pub bad_later : (before mid : ℕ) (xs ys : List ℕ) (flaw : Flaw) (place : ℕ) (why : Why) → flaw.left ≤ length ys → Counts before mid (Some xs) (Some ys) → IsAt mid ys flaw place why → IsAt before xs flaw place why
bad_later before mid xs ys flaw place why le p at = place_later before mid xs ys p.0 flaw place why le p.1 p.2 at
