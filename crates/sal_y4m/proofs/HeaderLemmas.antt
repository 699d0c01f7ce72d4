-- What a header line is read as.
use Rattle.std.proofs.Common.{◌≡◌, ℕ, suc, ◌+◌, ◌-◌, ◌^◌, ◌<◌, ◌≤◌, Bool, true, false, List, [], ◌∷◌, ◌++◌, length, drop, Option, Some, None, Result, Ok, Err, IfSome, refl, sym, ap, ◌∙◌, subst, arith, length-append, length-drop, le_refl, zero}
use Rattle.std.specs.Prelude.{if◌then◌else◌, IfOk, IfErr, ◌==◌}
use Rattle.std.specs.Result.{result_ok, IsErrAnd}
use Rattle.std.specs.Io.KnownBytes.{Consumes}
use Rattle.sal_io.specs.Told.{NoNewline, with_front, line_within}
use Rattle.sal_y4m.specs.declared.fault.Flaw.{Flaw}
use Rattle.sal_y4m.specs.declared.fault.Why.{Why}
use Rattle.sal_y4m.specs.declared.fault.Why.TheVariants.{Magic, Line, Cut}
use Rattle.sal_y4m.specs.declared.fault.Y4mFault.{Y4mFault}
use Rattle.sal_y4m.specs.declared.head.Head.{Head}
use Rattle.sal_y4m.specs.Parameters.{head_of}
use Rattle.sal_y4m.specs.Grammar.{cut, line_flaw, magic, begins_header, before_rest, header_line_of, header_of, header_at, flaw_of, header_flaw}
use Rattle.sal_y4m.specs.Answers.{counted, IsAt, IsBad, HeadGives}
use Rattle.sal_y4m.specs.Parts.{TakesPlain, line_head_of}
use Rattle.sal_y4m.proofs.Begins.{begins_line, begins_long}
use Rattle.sal_y4m.proofs.HeadLemmas.{IsRead, head_is_read, head_flaw_within}
use Rattle.sal_y4m.proofs.Places.{at_front, at_end, too_long, cut_short, line_of, line_there, line_not_ended, line_too_long, line_size, line_flaw_within}

-- ---- what is no header

flawed : (before : ℕ) (xs : List ℕ) (flaw : Flaw) (place : ℕ) (why : Why) → header_of xs ≡ Err flaw → IsAt before xs flaw place why → (header_at xs ≡ None) × IsAt before xs (header_flaw xs) place why
flawed before xs flaw place why is at = (ap (λ (r : Result (Head × List ℕ) Flaw). result_ok r) is, subst (λ (f : Flaw). IsAt before xs f place why) (sym (ap flaw_of is)) at)

other_word : (before : ℕ) (xs : List ℕ) → before < 2 ^ 64 → begins_header xs ≡ false → (header_at xs ≡ None) × IsAt before xs (header_flaw xs) before Magic
other_word before xs lt other =
    let is : header_of xs ≡ Err (record { left = length xs; why = Magic }) =
    ap (λ (b : Bool). if b then header_line_of xs (line_within 256 xs) else Err (record { left = length xs; why = Magic })) other in
    flawed before xs _ before Magic is (at_front before xs Magic lt)

no_line : (xs : List ℕ) (flaw : Flaw) → begins_header xs ≡ true → line_within 256 xs ≡ None → line_flaw xs ≡ flaw → header_of xs ≡ Err flaw
no_line xs flaw begins none is =
    ap (λ (b : Bool). if b then header_line_of xs (line_within 256 xs) else Err (record { left = length xs; why = Magic })) begins
    ∙ ap (header_line_of xs) none ∙ ap (λ (f : Flaw). Err f) is

-- ---- a whole line

pub whole_other : (before : ℕ) (old new : Option (List ℕ)) (line : List ℕ) → before < 2 ^ 64 → Consumes old new (line ++ 10 ∷ []) → begins_header line ≡ false → IsBad header_at header_flaw before old before Magic
whole_other before None new line lt p other = tt
whole_other before (Some xs) None line lt p other = absurd p
whole_other before (Some xs) (Some ys) line lt p other = other_word before xs lt (ap begins_header (line_of xs ys line p) ∙ begins_line line ys ∙ other)

whole_line : (xs ys line : List ℕ) → NoNewline line → length line < 256 → xs ≡ (line ++ 10 ∷ []) ++ ys → begins_header line ≡ true → header_of xs ≡ before_rest ys (head_of (drop (length magic) line))
whole_line xs ys line plain lt p begins =
    ap (λ (b : Bool). if b then header_line_of xs (line_within 256 xs) else Err (record { left = length xs; why = Magic })) (ap begins_header (line_of xs ys line p) ∙ begins_line line ys ∙ begins)
    ∙ ap (header_line_of xs) (line_there xs ys line plain lt p)

either_gives : (before : ℕ) (xs ys line : List ℕ) (h : Result Head Flaw) → length xs ≡ length line + suc (length ys) → header_of xs ≡ before_rest ys h → HeadGives before (Some xs) (Some ys) (line_head_of before line h)
either_gives before xs ys line (Ok head) long is = ap (λ (r : Result (Head × List ℕ) Flaw). result_ok r) is
either_gives before xs ys line (Err flaw) long is =
    let gap : length line - flaw.left ≡ length xs - (flaw.left + suc (length ys)) = omega (arith, long) in
    flawed before xs _ _ _ is (ap (counted before) gap, refl)

line_gives : (before : ℕ) (old new : Option (List ℕ)) (line : List ℕ) → NoNewline line → length line < 256 → Consumes old new (line ++ 10 ∷ []) → begins_header line ≡ true
    → HeadGives before old new (line_head_of before line (head_of (drop (length magic) line)))
line_gives before None new line plain lt p begins = untold before new line (head_of (drop (length magic) line))
  where
    untold : (before : ℕ) (new : Option (List ℕ)) (line : List ℕ) (h : Result Head Flaw) → HeadGives before None new (line_head_of before line h)
    untold before new line (Ok head) = tt
    untold before new line (Err flaw) = tt
line_gives before (Some xs) None line plain lt p begins = absurd p
line_gives before (Some xs) (Some ys) line plain lt p begins =
    either_gives before xs ys line (head_of (drop (length magic) line)) (line_size xs ys line p) (whole_line xs ys line plain lt p begins)

pub whole_gives : (before : ℕ) (old new : Option (List ℕ)) (line : List ℕ) (r out : Result Head Y4mFault) → NoNewline line → length line < 256 → Consumes old new (line ++ 10 ∷ []) → begins_header line ≡ true
    → r ≡ line_head_of before line (head_of (drop (length magic) line)) → r ≡ out → HeadGives before old new out
whole_gives before old new line r out plain lt p begins is was = subst (HeadGives before old new) (sym is ∙ was) (line_gives before old new line plain lt p begins)

pub err_is : {X E : Type 0} (r : Result X E) (e : E) → IsErrAnd r (λ x. x ≡ e) → Err e ≡ r
err_is (Ok x) e is = absurd is
err_is {E = E} (Err x) e is = ap (λ (y : E). Err y) (sym is)

-- ---- a line that is too long, or cut

pub long_other : (before : ℕ) (old new : Option (List ℕ)) (line : List ℕ) → before < 2 ^ 64 → length line ≡ 256 → Consumes old new line → begins_header line ≡ false → IsBad header_at header_flaw before old before Magic
long_other before None new line lt long p other = tt
long_other before (Some xs) None line lt long p other = absurd p
long_other before (Some xs) (Some ys) line lt long p other = other_word before xs lt (ap begins_header p ∙ begins_long line ys (omega (arith, long)) ∙ other)

pub long_line : (before : ℕ) (old new : Option (List ℕ)) (line : List ℕ) → before < 2 ^ 64 → length line ≡ 256 → TakesPlain old new line → begins_header line ≡ true → IsBad header_at header_flaw before old before Line
long_line before None new line lt long p begins = tt
long_line before (Some xs) None line lt long p begins = absurd p.1
long_line before (Some xs) (Some ys) line lt long p begins =
    let size : 256 ≤ length xs = omega (arith, long, ap length p.1, length-append line ys) in
    let is : header_of xs ≡ Err (record { left = length xs; why = Line }) =
    no_line xs _ (ap begins_header p.1 ∙ begins_long line ys (omega (arith, long)) ∙ begins) (line_too_long xs ys line p.0 (omega (arith, long)) p.1) (too_long xs size) in
    flawed before xs _ before Line is (at_front before xs Line lt)

pub ended_other : (before : ℕ) (old : Option (List ℕ)) (line : List ℕ) → before < 2 ^ 64 → IfSome old (λ xs. xs ≡ line) → begins_header line ≡ false → IsBad header_at header_flaw before old before Magic
ended_other before None line lt p other = tt
ended_other before (Some xs) line lt p other = other_word before xs lt (ap begins_header p ∙ other)

ended_at : (before n : ℕ) (xs line : List ℕ) → length line ≡ n → n < 256 → NoNewline line → xs ≡ line → begins_header line ≡ true → (header_at xs ≡ None) × IsAt before xs (header_flaw xs) (counted before n) Cut
ended_at before n xs line long lt plain p begins =
    let size : length xs ≡ n = ap length p ∙ long in
    let is : header_of xs ≡ Err cut =
    no_line xs _ (ap begins_header p ∙ begins) (line_not_ended xs (subst NoNewline (sym p) plain)) (cut_short xs (omega (arith, size, lt))) in
    flawed before xs _ _ Cut is (at_end before n xs size)

pub ended_line : (before n place : ℕ) (old : Option (List ℕ)) (line : List ℕ) → length line ≡ n → n < 256 → NoNewline line → IfSome old (λ xs. xs ≡ line) → begins_header line ≡ true → place ≡ counted before n → IsBad header_at header_flaw before old place Cut
ended_line before n place None line long lt plain p begins at = tt
ended_line before n place (Some xs) line long lt plain p begins at =
    subst (λ (k : ℕ). (header_at xs ≡ None) × IsAt before xs (header_flaw xs) k Cut) (sym at) (ended_at before n xs line long lt plain p begins)

-- ---- of all that is read

with_rest : (rest : List ℕ) (h : Result Head Flaw) → IfOk h IsRead → IfSome (result_ok (before_rest rest h)) (λ (found : Head × List ℕ). IsRead found.0)
with_rest rest (Ok head) is = is
with_rest rest (Err flaw) is = tt

in_line : (bytes : List ℕ) (o : Option (List ℕ × List ℕ)) → IfSome (result_ok (header_line_of bytes o)) (λ (found : Head × List ℕ). IsRead found.0)
in_line bytes None = tt
in_line bytes (Some line) = with_rest line.1 (head_of (drop (length magic) line.0)) (head_is_read (drop (length magic) line.0))

-- each header is one of a head within the limits, whose rate has numbers of 32 bits
pub header_is_read : (bytes : List ℕ) → IfSome (header_at bytes) (λ (found : Head × List ℕ). IsRead found.0)
header_is_read bytes = begun (begins_header bytes)
  where
    begun : (b : Bool) → IfSome (result_ok (if b then header_line_of bytes (line_within 256 bytes) else Err (record { left = length bytes; why = Magic }))) (λ (found : Head × List ℕ). IsRead found.0)
    begun true = in_line bytes (line_within 256 bytes)
    begun false = tt

-- ---- where a flaw lies

-- a line that is found, its newline and what comes after it are all there is
abbrev IsWhole : List ℕ → Option (List ℕ × List ℕ) → Type 0
IsWhole bytes o = IfSome o (λ line. length bytes ≡ length line.0 + suc (length line.1))

one_longer : (b : ℕ) (bytes : List ℕ) (o : Option (List ℕ × List ℕ)) → IsWhole bytes o → IsWhole (b ∷ bytes) (with_front b o)
one_longer b bytes None is = tt
one_longer b bytes (Some line) is = omega (arith, is)

either_whole : (t : Bool) (b : ℕ) (bytes : List ℕ) (o : Option (List ℕ × List ℕ)) → IsWhole (b ∷ bytes) o → IsWhole (b ∷ bytes) (if t then Some ([], bytes) else o)
either_whole true b bytes o is = omega arith
either_whole false b bytes o is = is

line_whole : (n : ℕ) (bytes : List ℕ) → IsWhole bytes (line_within n bytes)
unfolding line_within
line_whole zero bytes = tt
line_whole (suc n) [] = tt
line_whole (suc n) (b ∷ bytes) = either_whole (b == 10) b bytes (with_front b (line_within n bytes)) (one_longer b bytes (line_within n bytes) (line_whole n bytes))

rest_within : (bytes line rest : List ℕ) (h : Result Head Flaw) → length bytes ≡ length line + suc (length rest) → IfErr h (λ flaw. flaw.left ≤ length (drop (length magic) line)) → (flaw_of (before_rest rest h)).left ≤ length bytes
rest_within bytes line rest (Ok head) long le = omega arith
rest_within bytes line rest (Err flaw) long le = omega (arith, long, le, length-drop (length magic) line)

found_within : (bytes : List ℕ) (o : Option (List ℕ × List ℕ)) → IsWhole bytes o → (flaw_of (header_line_of bytes o)).left ≤ length bytes
found_within bytes None is = line_flaw_within bytes
found_within bytes (Some line) is = rest_within bytes line.0 line.1 (head_of (drop (length magic) line.0)) is (head_flaw_within (drop (length magic) line.0))

-- no flaw of what is read begins before it
pub header_flaw_within : (bytes : List ℕ) → (header_flaw bytes).left ≤ length bytes
header_flaw_within bytes = begun (begins_header bytes)
  where
    begun : (b : Bool) → (flaw_of (if b then header_line_of bytes (line_within 256 bytes) else Err (record { left = length bytes; why = Magic }))).left ≤ length bytes
    begun true = found_within bytes (line_within 256 bytes) (line_whole 256 bytes)
    begun false = le_refl (length bytes)
