-- What a picture is read as.
use Rattle.std.proofs.Common.{◌≡◌, ◌≢◌, ℕ, ◌+◌, ◌-◌, ◌*◌, ◌^◌, ◌<◌, ◌≤◌, Bool, true, false, List, [], ◌∷◌, ◌++◌, length, take, drop, Option, Some, None, Result, Ok, Err, IfSome, refl, sym, ap, ◌∙◌, subst, arith, length-append, length-drop, le_refl}
use Rattle.std.specs.Prelude.{if◌then◌else◌, nat_le}
use Rattle.std.proofs.lemmas.Bool.{leb-true}
use Rattle.std.specs.Result.{IsErrAnd}
use Rattle.std.specs.Io.KnownBytes.{Consumes}
use Rattle.std.proofs.KnownBytes.{Consumes-trans}
use Rattle.sal_base.specs.declared.picture.Plane.{Plane}
use Rattle.sal_base.specs.declared.picture.Picture.{Picture}
use Rattle.sal_base.specs.Picture.{half}
use Rattle.sal_io.specs.Told.{NoNewline, ReadsAs, TakesUpTo, ◌>>=◌, line_within}
use Rattle.sal_io.proofs.ToldLemmas.{takes_more, takes_within}
use Rattle.sal_y4m.specs.declared.fault.Flaw.{Flaw}
use Rattle.sal_y4m.specs.declared.fault.Why.{Why}
use Rattle.sal_y4m.specs.declared.fault.Why.TheVariants.{Line, Cut, Frame}
use Rattle.sal_y4m.specs.declared.fault.Y4mFault.{Y4mFault}
use Rattle.sal_y4m.specs.declared.fault.Y4mFault.TheVariants.{Bad, ReadFault, Memory}
use Rattle.sal_y4m.specs.declared.head.Head.{Head}
use Rattle.sal_y4m.specs.Grammar.{cut, samples_of, is_mark, mark_at, plane_at, planes_at, picture_at, mark_flaw, picture_flaw}
use Rattle.sal_y4m.specs.Answers.{counted, Counts, IsAt, IsBad, NextGives, PictureUnread}
use Rattle.sal_y4m.specs.Parts.{TakesPlain, Takes, FallsShort, PlanesGive, IsMarkLine}
use Rattle.sal_y4m.proofs.Places.{counted_more, counts_then, at_front, at_end, too_long, cut_short, line_there, line_not_ended, line_too_long, line_size, line_flaw_within}

-- ---- planes, one after the other

pub planes_read : (head : Head) (a b c d : Option (List ℕ)) (w h : ℕ) (y u v : Plane) → w ≡ half head.width → h ≡ half head.height
    → ReadsAs (plane_at head.width head.height) a b y → ReadsAs (plane_at w h) b c u → ReadsAs (plane_at w h) c d v
    → ReadsAs (planes_at head) a d (record { width = head.width; height = head.height; y = y; u = u; v = v })
planes_read head None b c d w h y u v sw sh p q r = tt
planes_read head (Some xs) None c d w h y u v sw sh p q r = absurd p
planes_read head (Some xs) (Some ys) None d w h y u v sw sh p q r = absurd q
planes_read head (Some xs) (Some ys) (Some zs) None w h y u v sw sh p q r = absurd r
planes_read head (Some xs) (Some ys) (Some zs) (Some us) w h y u v sw sh p q r =
    let from_v = λ (yy : Plane × List ℕ) (uu : Plane × List ℕ). plane_at (half head.width) (half head.height) uu.1 >>= λ vv. Some (record { width = head.width; height = head.height; y = yy.0; u = uu.0; v = vv.0 }, vv.1) in
    let from_u = λ (yy : Plane × List ℕ). plane_at (half head.width) (half head.height) yy.1 >>= from_v yy in
    let ru : plane_at (half head.width) (half head.height) ys ≡ Some (u, zs) = rw (← sw, ← sh) q in
    let rv : plane_at (half head.width) (half head.height) zs ≡ Some (v, us) = rw (← sw, ← sh) r in
    ap (λ o. o >>= from_u) p ∙ ap (λ o. o >>= from_v (y, ys)) ru ∙ ap (λ o. o >>= λ vv. Some (record { width = head.width; height = head.height; y = y; u = u; v = vv.0 }, vv.1)) rv

pub takes_then : (m n before mid now : ℕ) (a b c : Option (List ℕ)) → Takes m before mid a b → Takes n mid now b c → Takes (m + n) before now a c
takes_then m n before mid now a b c p q =
    (p.0 ++ q.0, omega (arith, length-append p.0 q.0, p.1, q.1), Consumes-trans a b c p.0 q.0 p.2 q.2, q.3 ∙ ap (λ (k : ℕ). counted k n) p.3 ∙ counted_more before m n)

-- ---- too few samples

after_front : (m n before mid : ℕ) (xs ys front : List ℕ) (place : ℕ) → length front ≡ m → mid ≡ counted before m → xs ≡ front ++ ys → (length ys < n) × (place ≡ counted mid (length ys)) → (length xs < m + n) × (place ≡ counted before (length xs))
after_front m n before mid xs ys front place long count p q =
    let size : length xs ≡ m + length ys = omega (arith, ap length p, length-append front ys, long) in
    (omega (arith, size, q.0), q.1 ∙ ap (λ (k : ℕ). counted k (length ys)) count ∙ counted_more before m (length ys) ∙ ap (counted before) (sym size))

cut_later : (m n before mid place : ℕ) (a b : Option (List ℕ)) → Takes m before mid a b → IfSome b (λ xs. (length xs < n) × (place ≡ counted mid (length xs))) → IfSome a (λ xs. (length xs < m + n) × (place ≡ counted before (length xs)))
cut_later m n before mid place None b p q = tt
cut_later m n before mid place (Some xs) None p q = absurd p.2
cut_later m n before mid place (Some xs) (Some ys) p q = after_front m n before mid xs ys p.0 place p.1 p.3 p.2 q

pub short_later : (m n before mid : ℕ) (a b c : Option (List ℕ)) (e : Y4mFault) → Takes m before mid a b → FallsShort n mid b c e → FallsShort (m + n) before a c e
short_later m n before mid a b c (Bad place why) p q = (q.0, cut_later m n before mid place a b p q.1)
short_later m n before mid a b c ReadFault p q = (p.0 ++ q.0, omega (arith, length-append p.0 q.0, p.1, q.1), Consumes-trans a b c p.0 q.0 p.2 q.2)
short_later m n before mid a b c Memory p q = absurd q

fewer : (m n before place : ℕ) (a : Option (List ℕ)) → m ≤ n → IfSome a (λ xs. (length xs < m) × (place ≡ counted before (length xs))) → IfSome a (λ xs. (length xs < n) × (place ≡ counted before (length xs)))
fewer m n before place None le p = tt
fewer m n before place (Some xs) le p = (omega (arith, p.0), p.1)

pub short_within : (m n before : ℕ) (a b : Option (List ℕ)) (e : Y4mFault) → m ≤ n → FallsShort m before a b e → FallsShort n before a b e
short_within m n before a b (Bad place why) le p = (p.0, fewer m n before place a le p.1)
short_within m n before a b ReadFault le p = (p.0, omega (arith, p.1), p.2)
short_within m n before a b Memory le p = p

-- ---- the planes of a picture, of so many samples of luma and, in each plane, of chroma

chroma_size : (w h half_w half_h : ℕ) → w ≡ half_w → h ≡ half_h → w * h ≡ half_w * half_h
chroma_size w h half_w half_h sw sh = ap (λ (n : ℕ). n * h) sw ∙ ap (λ (n : ℕ). half_w * n) sh

pub luma_short : (y c before : ℕ) (a b : Option (List ℕ)) (e : Y4mFault) → FallsShort y before a b e → FallsShort (y + 2 * c) before a b e
luma_short y c before a b e p = short_within y (y + 2 * c) before a b e (omega arith) p

pub chroma_short : (y w h half_w half_h before mid : ℕ) (a b d : Option (List ℕ)) (e : Y4mFault) → w ≡ half_w → h ≡ half_h
    → Takes y before mid a b → FallsShort (w * h) mid b d e → FallsShort (y + 2 * (half_w * half_h)) before a d e
chroma_short y w h half_w half_h before mid a b d e sw sh p q =
    short_within (y + w * h) (y + 2 * (half_w * half_h)) before a d e (omega (arith, chroma_size w h half_w half_h sw sh)) (short_later y (w * h) before mid a b d e p q)

pub last_short : (y w h half_w half_h before mid late : ℕ) (a b c d : Option (List ℕ)) (e : Y4mFault) → w ≡ half_w → h ≡ half_h
    → Takes y before mid a b → Takes (w * h) mid late b c → FallsShort (w * h) late c d e → FallsShort (y + 2 * (half_w * half_h)) before a d e
last_short y w h half_w half_h before mid late a b c d e sw sh p q r =
    short_within ((y + w * h) + w * h) (y + 2 * (half_w * half_h)) before a d e (omega (arith, chroma_size w h half_w half_h sw sh))
    (short_later (y + w * h) (w * h) before late a c d e (takes_then y (w * h) before mid late a b c p q) r)

pub all_taken : (y w h half_w half_h before mid late now : ℕ) (a b c d : Option (List ℕ)) → w ≡ half_w → h ≡ half_h
    → Takes y before mid a b → Takes (w * h) mid late b c → Takes (w * h) late now c d → Takes (y + 2 * (half_w * half_h)) before now a d
all_taken y w h half_w half_h before mid late now a b c d sw sh p q r =
    let size : (y + w * h) + w * h ≡ y + 2 * (half_w * half_h) = omega (arith, chroma_size w h half_w half_h sw sh) in
    subst (λ (n : ℕ). Takes n before now a d) size (takes_then (y + w * h) (w * h) before late now a c d (takes_then y (w * h) before mid late a b c p q) r)

-- what a call answered that fell short
pub planes_fail : (head : Head) (before now : ℕ) (a b : Option (List ℕ)) (e : Y4mFault) (out : Result Picture Y4mFault) → IsErrAnd out (λ x. x ≡ e) → FallsShort (samples_of head.width head.height) before a b e → PlanesGive head before now a b out
planes_fail head before now a b e (Ok p) is q = absurd is
planes_fail head before now a b e (Err x) is q = subst (FallsShort (samples_of head.width head.height) before a b) (sym is) q

-- ---- how much is taken at most

pub front_luma : (y c : ℕ) (a b : Option (List ℕ)) → TakesUpTo y a b → TakesUpTo (y + 2 * c) a b
front_luma y c a b p = takes_within y (y + 2 * c) a b (omega arith) p

pub front_chroma : (y w h half_w half_h : ℕ) (a b d : Option (List ℕ)) → w ≡ half_w → h ≡ half_h → TakesUpTo y a b → TakesUpTo (w * h) b d → TakesUpTo (y + 2 * (half_w * half_h)) a d
front_chroma y w h half_w half_h a b d sw sh p q = takes_within (y + w * h) (y + 2 * (half_w * half_h)) a d (omega (arith, chroma_size w h half_w half_h sw sh)) (takes_more y (w * h) a b d p q)

pub front_planes : (y w h half_w half_h : ℕ) (a b c d : Option (List ℕ)) → w ≡ half_w → h ≡ half_h → TakesUpTo y a b → TakesUpTo (w * h) b c → TakesUpTo (w * h) c d → TakesUpTo (y + 2 * (half_w * half_h)) a d
front_planes y w h half_w half_h a b c d sw sh p q r =
    takes_within ((y + w * h) + w * h) (y + 2 * (half_w * half_h)) a d (omega (arith, chroma_size w h half_w half_h sw sh)) (takes_more (y + w * h) (w * h) a c d (takes_more y (w * h) a b c p q) r)

-- ---- no planes in too few samples

abbrev plane_in : ℕ → ℕ → List ℕ × List ℕ → Option (Plane × List ℕ)
plane_in w h block = Some (record { width = w; height = h; samples = block.0 }, block.1)

abbrev block_if : ℕ → List ℕ → Bool → Option (List ℕ × List ℕ)
block_if n bytes b = if b then Some (take n bytes, drop n bytes) else None

short_plane : {Y : Type 0} (w h n : ℕ) (bytes : List ℕ) (f : Plane × List ℕ → Option (Y × List ℕ)) (b : Bool) → nat_le (w * h) (length bytes) ≡ b → length bytes < w * h + n
    → ((x : Plane × List ℕ) → length x.1 < n → f x ≡ None)
    → ((block_if (w * h) bytes b >>= plane_in w h) >>= f) ≡ None
short_plane w h n bytes f true enough lt more =
    let le : w * h ≤ length bytes = leb-true (w * h) (length bytes) enough in
    more (record { width = w; height = h; samples = take (w * h) bytes }, drop (w * h) bytes) (omega (arith, le, lt, length-drop (w * h) bytes))
short_plane w h n bytes f false enough lt more = refl

no_plane : {Y : Type 0} (w h n : ℕ) (bytes : List ℕ) (f : Plane × List ℕ → Option (Y × List ℕ)) → length bytes < w * h + n → ((x : Plane × List ℕ) → length x.1 < n → f x ≡ None) → (plane_at w h bytes >>= f) ≡ None
no_plane w h n bytes f lt more = short_plane w h n bytes f (nat_le (w * h) (length bytes)) refl lt more

pub no_planes : (head : Head) (bytes : List ℕ) → length bytes < samples_of head.width head.height → planes_at head bytes ≡ None
no_planes head bytes lt =
    let c : ℕ = half head.width * half head.height in
    no_plane head.width head.height (c + (c + 0)) bytes _ (omega (arith, lt)) (λ y few.
    no_plane (half head.width) (half head.height) (c + 0) y.1 _ few (λ u fewer.
    no_plane (half head.width) (half head.height) 0 u.1 _ fewer (λ v none. absurd (omega (arith, none)))))

-- ---- the line before a picture

abbrev IsMarkFault : ℕ → List ℕ → ℕ → Why → Type 0
IsMarkFault before xs place why = (xs ≢ []) × (mark_at xs ≡ None) × IsAt before xs (picture_flaw xs) place why

some_there : (xs : List ℕ) → 0 < length xs → xs ≢ []
some_there xs lt e = omega (arith, lt, ap length e)

not_marked : (before : ℕ) (xs : List ℕ) (o : Option (List ℕ × List ℕ)) (flaw : Flaw) (place : ℕ) (why : Why) → 0 < length xs → line_within 256 xs ≡ o → (o >>= λ line. if is_mark line.0 then Some line else None) ≡ None → mark_flaw xs o ≡ flaw
    → IsAt before xs flaw place why → IsMarkFault before xs place why
not_marked before xs o flaw place why some is none flawed at =
    let test = λ (o : Option (List ℕ × List ℕ)). o >>= λ line. if is_mark line.0 then Some line else None in
    (some_there xs some, ap test is ∙ none, subst (λ (f : Flaw). IsAt before xs f place why) (sym (ap (mark_flaw xs) is ∙ flawed)) at)

pub other_line : (before : ℕ) (old new : Option (List ℕ)) (line : List ℕ) → before < 2 ^ 64 → NoNewline line → length line < 256 → Consumes old new (line ++ 10 ∷ []) → is_mark line ≡ false → IfSome old (λ xs. IsMarkFault before xs before Frame)
other_line before None new line lt plain short p other = tt
other_line before (Some xs) None line lt plain short p other = absurd p
other_line before (Some xs) (Some ys) line lt plain short p other =
    let size : 0 < length xs = omega (arith, line_size xs ys line p) in
    let none : (if is_mark line then Some (line, ys) else None) ≡ None = ap (λ (b : Bool). if b then Some (line, ys) else None) other in
    let flaw : mark_flaw xs (Some (line, ys)) ≡ record { left = length xs; why = Frame } = ap (λ (b : Bool). if b then cut else record { left = length xs; why = Frame }) other in
    not_marked before xs (Some (line, ys)) _ before Frame size (line_there xs ys line plain short p) none flaw (at_front before xs Frame lt)

pub long_mark : (before : ℕ) (old new : Option (List ℕ)) (line : List ℕ) → before < 2 ^ 64 → length line ≡ 256 → TakesPlain old new line → IfSome old (λ xs. IsMarkFault before xs before Line)
long_mark before None new line lt long p = tt
long_mark before (Some xs) None line lt long p = absurd p.1
long_mark before (Some xs) (Some ys) line lt long p =
    let size : 256 ≤ length xs = omega (arith, long, ap length p.1, length-append line ys) in
    not_marked before xs None _ before Line (omega (arith, size)) (line_too_long xs ys line p.0 (omega (arith, long)) p.1) refl (too_long xs size) (at_front before xs Line lt)

ended_at : (before n : ℕ) (xs line : List ℕ) → 0 < n → length line ≡ n → n < 256 → NoNewline line → xs ≡ line → IsMarkFault before xs (counted before n) Cut
ended_at before n xs line some long lt plain p =
    let size : length xs ≡ n = ap length p ∙ long in
    not_marked before xs None cut _ Cut (omega (arith, size, some)) (line_not_ended xs (subst NoNewline (sym p) plain)) refl (cut_short xs (omega (arith, size, lt))) (at_end before n xs size)

pub ended_mark : (before n place : ℕ) (old : Option (List ℕ)) (line : List ℕ) → 0 < n → length line ≡ n → n < 256 → NoNewline line → IfSome old (λ xs. xs ≡ line) → place ≡ counted before n → IfSome old (λ xs. IsMarkFault before xs place Cut)
ended_mark before n place None line some long lt plain p at = tt
ended_mark before n place (Some xs) line some long lt plain p at = subst (λ (k : ℕ). IsMarkFault before xs k Cut) (sym at) (ended_at before n xs line some long lt plain p)

-- ---- a picture

mark_there : (xs ys line : List ℕ) → NoNewline line → length line < 256 → is_mark line ≡ true → xs ≡ (line ++ 10 ∷ []) ++ ys → mark_at xs ≡ Some (line, ys)
mark_there xs ys line plain short mark p =
    ap (λ (o : Option (List ℕ × List ℕ)). o >>= λ line. if is_mark line.0 then Some line else None) (line_there xs ys line plain short p)
    ∙ ap (λ (b : Bool). if b then Some (line, ys) else None) mark

pub picture_read : (head : Head) (before mid : ℕ) (a b c : Option (List ℕ)) (line : List ℕ) (p : Picture) → IsMarkLine before mid a b line → ReadsAs (planes_at head) b c p → ReadsAs (picture_at head) a c p
picture_read head before mid None b c line p is q = tt
picture_read head before mid (Some xs) None c line p is q = absurd is.taken
picture_read head before mid (Some xs) (Some ys) None line p is q = absurd q
picture_read head before mid (Some xs) (Some ys) (Some zs) line p is q =
    ap (λ (o : Option (List ℕ × List ℕ)). o >>= λ line. planes_at head line.1) (mark_there xs ys line is.plain is.short is.mark is.taken) ∙ q

-- a front of a picture that isn't whole
picture_cut : (head : Head) (xs ys line : List ℕ) → NoNewline line → length line < 256 → is_mark line ≡ true → xs ≡ (line ++ 10 ∷ []) ++ ys → length ys < samples_of head.width head.height → (picture_at head xs ≡ None) × (picture_flaw xs ≡ cut)
picture_cut head xs ys line plain short mark p few = (
  ap (λ (o : Option (List ℕ × List ℕ)). o >>= λ line. planes_at head line.1) (mark_there xs ys line plain short mark p) ∙ no_planes head ys few,
  ap (mark_flaw xs) (line_there xs ys line plain short p) ∙ ap (λ (b : Bool). if b then cut else record { left = length xs; why = Frame }) mark,
)

cut_at : (head : Head) (before mid place : ℕ) (xs ys line : List ℕ) → NoNewline line → length line < 256 → is_mark line ≡ true → mid ≡ counted before (length line + 1) → xs ≡ (line ++ 10 ∷ []) ++ ys
    → (length ys < samples_of head.width head.height) × (place ≡ counted mid (length ys)) → (picture_at head xs ≡ None) × IsAt before xs (picture_flaw xs) place Cut
cut_at head before mid place xs ys line plain short mark count p q =
    let is = picture_cut head xs ys line plain short mark p q.0 in
    let gap : (length line + 1) + length ys ≡ length xs - 0 = omega (arith, line_size xs ys line p) in
    let at : place ≡ counted before (length xs - 0) = q.1 ∙ ap (λ (k : ℕ). counted k (length ys)) count ∙ counted_more before (length line + 1) (length ys) ∙ ap (counted before) gap in
    (is.0, subst (λ (f : Flaw). IsAt before xs f place Cut) (sym is.1) (at, refl))

short_at : (head : Head) (before mid place : ℕ) (a b : Option (List ℕ)) (line : List ℕ) → IsMarkLine before mid a b line → IfSome b (λ xs. (length xs < samples_of head.width head.height) × (place ≡ counted mid (length xs)))
    → IfSome a (λ xs. xs ≢ []) × IsBad (picture_at head) picture_flaw before a place Cut
short_at head before mid place None b line is q = (tt, tt)
short_at head before mid place (Some xs) None line is q = absurd is.taken
short_at head before mid place (Some xs) (Some ys) line is q = (some_there xs (omega (arith, line_size xs ys line is.taken)), cut_at head before mid place xs ys line is.plain is.short is.mark is.count is.taken q)

pub short_gives : (head : Head) (before mid place : ℕ) (why : Why) (a b c : Option (List ℕ)) (line : List ℕ) → IsMarkLine before mid a b line → FallsShort (samples_of head.width head.height) mid b c (Bad place why)
    → IfSome a (λ xs. xs ≢ []) × IsBad (picture_at head) picture_flaw before a place why
short_gives head before mid place why a b c line is q =
    subst (λ (w : Why). IfSome a (λ xs. xs ≢ []) × IsBad (picture_at head) picture_flaw before a place w) (sym q.0) (short_at head before mid place a b line is q.1)

pub short_unread : (head : Head) (before mid : ℕ) (a b c : Option (List ℕ)) (line : List ℕ) → IsMarkLine before mid a b line → FallsShort (samples_of head.width head.height) mid b c ReadFault → PictureUnread head a c
short_unread head before mid a b c line is q =
    let whole = picture_cut head ((line ++ 10 ∷ []) ++ q.0) q.0 line is.plain is.short is.mark refl q.1 in
    ((line ++ 10 ∷ []) ++ q.0, Consumes-trans a b c (line ++ 10 ∷ []) q.0 is.taken q.2, whole.0, whole.1)

-- what a call answered that fell short after the line
fails_as : (head : Head) (before mid : ℕ) (a b c : Option (List ℕ)) (line : List ℕ) (e : Y4mFault) → IsMarkLine before mid a b line → FallsShort (samples_of head.width head.height) mid b c e → NextGives head before a c (Err e)
fails_as head before mid a b c line (Bad place why) is q = short_gives head before mid place why a b c line is q
fails_as head before mid a b c line ReadFault is q = tt
fails_as head before mid a b c line Memory is q = tt

pub picture_fails : (head : Head) (before mid : ℕ) (a b c : Option (List ℕ)) (line : List ℕ) (e : Y4mFault) (out : Result (Option Picture) Y4mFault) → IsErrAnd out (λ x. x ≡ e)
    → IsMarkLine before mid a b line → FallsShort (samples_of head.width head.height) mid b c e → NextGives head before a c out
picture_fails head before mid a b c line e (Ok p) at is q = absurd at
picture_fails head before mid a b c line e (Err x) at is q = subst (λ (f : Y4mFault). NextGives head before a c (Err f)) (sym at) (fails_as head before mid a b c line e is q)

failed_unread : (head : Head) (before mid : ℕ) (a b c : Option (List ℕ)) (line : List ℕ) (e : Y4mFault) → e ≡ ReadFault → IsMarkLine before mid a b line → FallsShort (samples_of head.width head.height) mid b c e → PictureUnread head a c
failed_unread head before mid a b c line e fault is q = short_unread head before mid a b c line is (subst (FallsShort (samples_of head.width head.height) mid b c) fault q)

pub fails_unread : (head : Head) (before mid : ℕ) (a b c : Option (List ℕ)) (line : List ℕ) (e : Y4mFault) (out : Result (Option Picture) Y4mFault) → IsErrAnd out (λ x. x ≡ e)
    → IsMarkLine before mid a b line → FallsShort (samples_of head.width head.height) mid b c e → out ≡ Err ReadFault → PictureUnread head a c
fails_unread head before mid a b c line e (Ok p) at is q fault = absurd at
fails_unread head before mid a b c line e (Err x) at is q fault = let same : e ≡ ReadFault = cc in failed_unread head before mid a b c line e same is q

-- a front of a line
pub line_unread : (head : Head) (a b : Option (List ℕ)) (front : List ℕ) → length front < 256 → TakesPlain a b front → PictureUnread head a b
line_unread head a b front short p =
    let none : line_within 256 front ≡ None = line_not_ended front p.0 in (
      front,
      p.1,
      ap (λ (o : Option (List ℕ × List ℕ)). (o >>= λ line. if is_mark line.0 then Some line else None) >>= λ line. planes_at head line.1) none,
      ap (mark_flaw front) none ∙ cut_short front short,
    )

no_picture : (head : Head) (before : ℕ) (xs : List ℕ) (place : ℕ) (why : Why) → IsMarkFault before xs place why → (xs ≢ []) × ((picture_at head xs ≡ None) × IsAt before xs (picture_flaw xs) place why)
no_picture head before xs place why p = (p.0, (ap (λ (o : Option (List ℕ × List ℕ)). o >>= λ line. planes_at head line.1) p.1, p.2))

-- no picture without its line
pub mark_gives : (head : Head) (before : ℕ) (a : Option (List ℕ)) (place : ℕ) (why : Why) → IfSome a (λ xs. IsMarkFault before xs place why) → IfSome a (λ xs. xs ≢ []) × IsBad (picture_at head) picture_flaw before a place why
mark_gives head before None place why p = (tt, tt)
mark_gives head before (Some xs) place why p = no_picture head before xs place why p

-- what was taken of a whole picture
pub counts_picture : (n before mid now : ℕ) (a b c : Option (List ℕ)) (line : List ℕ) → IsMarkLine before mid a b line → Takes n mid now b c → Counts before now a c
counts_picture n before mid now a b c line is q =
    counts_then before mid now a b c (line ++ 10 ∷ [], is.taken, is.count ∙ ap (counted before) (omega (arith, length-append line (10 ∷ [])))) (q.0, q.2, q.3 ∙ ap (counted mid) (sym q.1))

-- ---- where a flaw lies

mark_within : (bytes : List ℕ) (o : Option (List ℕ × List ℕ)) → (mark_flaw bytes o).left ≤ length bytes
mark_within bytes None = line_flaw_within bytes
mark_within bytes (Some line) = either (is_mark line.0)
  where
    either : (b : Bool) → (if b then cut else record { left = length bytes; why = Frame }).left ≤ length bytes
    either true = omega arith
    either false = le_refl (length bytes)

-- no flaw of what is read begins before it
pub picture_flaw_within : (bytes : List ℕ) → (picture_flaw bytes).left ≤ length bytes
picture_flaw_within bytes = mark_within bytes (line_within 256 bytes)
