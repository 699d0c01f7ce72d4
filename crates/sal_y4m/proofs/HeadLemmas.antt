-- A header gives a head within the limits, and a flaw lies within its line.
use Rattle.std.proofs.Common.{◌≡◌, ℕ, ◌<◌, ◌≤◌, ◌^◌, Bool, true, false, cond, List, [], ◌∷◌, length, take, Option, Some, None, Result, Ok, Err, IfSome, refl, sym, ◌∙◌, subst, arith, drop, length-drop}
use Rattle.std.proofs.lemmas.List.{length-take}
use Rattle.std.specs.Prelude.{IfOk, IfErr, nat_lt, nat_le, if◌then◌else◌, ◌&&◌, ◌==◌, codes}
use Rattle.std.specs.Option.{is_some, ok_or}
use Rattle.std.specs.Str.{bytes_eq}
use Rattle.std.specs.List.{before_first}
use Rattle.std.proofs.lemmas.Bool.{leb-true, ltb-true}
use Rattle.std.specs.List.{prefix_len}
use Rattle.std.specs.Char.{is_ascii_digit}
use Rattle.std.specs.Str.Parse.{digits_value}
use Rattle.sal_base.specs.Digits.{decimal_of, decimal_at}
use Rattle.sal_base.specs.declared.limits.TheConstants.{MAX_WIDTH, MAX_HEIGHT}
use Rattle.sal_io.specs.Told.{◌>>=◌}
use Rattle.sal_y4m.specs.declared.fault.Why.{Why}
use Rattle.sal_y4m.specs.declared.fault.Why.TheVariants as why
use Rattle.sal_y4m.specs.declared.fault.Flaw.{Flaw}
use Rattle.sal_y4m.specs.declared.head.Head.{Head}
use Rattle.sal_y4m.specs.declared.parameters.Letter.{Letter}
use Rattle.sal_y4m.specs.declared.parameters.Letter.TheVariants as letter
use Rattle.sal_y4m.specs.declared.parameters.Settings.{Settings}
use Rattle.sal_y4m.specs.Head.{IsHead}
use Rattle.sal_y4m.specs.Values.{after, number_of, ratio_of, side_of, rate_of, is_interlace, is_colour}
use Rattle.sal_y4m.specs.Parameters.{letter_of, set, Parameter, is_space, first_and, parameters, or_flaw, all_set, unset, head_with, whole, head_of}

-- ---- the values

if_both : {A : Type 0} (a b : Bool) (x : A) (P : A → Type 0) → (a ≡ true → b ≡ true → P x) → IfSome (if a && b then Some x else None) P
if_both false b x P holds = tt
if_both true false x P holds = tt
if_both true true x P holds = holds refl refl

onward : {A B : Type 0} (o : Option A) (f : A → Option B) (P : B → Type 0) → ((a : A) → IfSome (f a) P) → IfSome (o >>= f) P
onward None f P holds = tt
onward (Some a) f P holds = holds a

abbrev IsSide : ℕ → ℕ → Type 0
IsSide most side = (1 ≤ side) × (side ≤ most)

-- no zero, and no number that is too great
record IsRate (rate : ℕ × ℕ) : Type 0 where
  pub some : 1 ≤ rate.0
  pub some_seconds : 1 ≤ rate.1
  pub fits : rate.0 < 2 ^ 32
  pub seconds_fit : rate.1 < 2 ^ 32

-- a head as it is read: its rate has numbers of 32 bits
pub record IsRead (head : Head) : Type 0 where
  pub legal : IsHead head
  pub pictures : head.rate.0 < 2 ^ 32
  pub seconds : head.rate.1 < 2 ^ 32

if_third : {A : Type 0} (a b c : Bool) (x : A) (P : A → Type 0) → (c ≡ true → P x) → IfSome (if a && b && c then Some x else None) P
if_third false b c x P holds = tt
if_third true false c x P holds = tt
if_third true true false x P holds = tt
if_third true true true x P holds = holds refl

decimal_fits : (bytes : List ℕ) → IfSome (decimal_at bytes) (λ (found : ℕ × List ℕ). found.0 < 2 ^ 32)
decimal_fits bytes = of_count (prefix_len is_ascii_digit bytes)
  where
    of_count : (count : ℕ) → IfSome (decimal_of count bytes) (λ (found : ℕ × List ℕ). found.0 < 2 ^ 32)
    of_count count = if_third (nat_lt 0 count) (nat_le count 10) (nat_lt (digits_value 10 (take count bytes)) (2 ^ 32)) _ (λ (found : ℕ × List ℕ). found.0 < 2 ^ 32) (λ small. ltb-true _ _ small)

abbrev Fit : ℕ × ℕ → Type 0
Fit rate = (rate.0 < 2 ^ 32) × (rate.1 < 2 ^ 32)

both : {A B : Type 0} (o : Option A) (f : A → Option B) (P : A → Type 0) (Q : B → Type 0) → IfSome o P → ((a : A) → P a → IfSome (f a) Q) → IfSome (o >>= f) Q
both None f P Q p holds = tt
both (Some a) f P Q p holds = holds a p

if_one : {A : Type 0} (b : Bool) (x : A) (P : A → Type 0) → P x → IfSome (if b then Some x else None) P
if_one true x P p = p
if_one false x P p = tt

number_fits : (text : List ℕ) → IfSome (number_of text) (λ (n : ℕ). n < 2 ^ 32)
number_fits text =
    both (decimal_at text) _ (λ (found : ℕ × List ℕ). found.0 < 2 ^ 32) (λ (n : ℕ). n < 2 ^ 32) (decimal_fits text) (λ found small. if_one (length found.1 == 0) found.0 (λ (n : ℕ). n < 2 ^ 32) small)

ratio_fits : (text : List ℕ) → IfSome (ratio_of text) Fit
ratio_fits text =
    both (decimal_at text) _ (λ (found : ℕ × List ℕ). found.0 < 2 ^ 32) Fit (decimal_fits text) (λ first small.
    onward (after (codes ":") first.1) _ Fit (λ rest.
    both (number_of rest) _ (λ (n : ℕ). n < 2 ^ 32) Fit (number_fits rest) (λ second less. (small, less))))

side_within : (most : ℕ) (text : List ℕ) → IfSome (side_of most text) (IsSide most)
side_within most text =
    onward (number_of text) _ (IsSide most) (λ side. if_both (nat_le 1 side) (nat_le side most) side (IsSide most) (λ low high. (leb-true 1 side low, leb-true side most high)))

rate_either : (b : Bool) (o : Option (ℕ × ℕ)) → IfSome o IsRate → IfSome (if b then Some (30, 1) else o) IsRate
rate_either true o is = record { some = omega arith; some_seconds = omega arith; fits = omega arith; seconds_fit = omega arith }
rate_either false o is = is

rate_within : (text : List ℕ) → IfSome (rate_of text) IsRate
rate_within text =
    rate_either (bytes_eq text (codes "0:0")) _
    (both (ratio_of text) _ Fit IsRate (ratio_fits text) (λ rate fit. if_both (nat_le 1 rate.0) (nat_le 1 rate.1) rate IsRate (λ first second. record {
      some = leb-true 1 rate.0 first;
      some_seconds = leb-true 1 rate.1 second;
      fits = fit.0;
      seconds_fit = fit.1;
    })))

-- ---- what was set

-- each side that was set is within its limit, and so is the rate
record AreWithin (s : Settings) : Type 0 where
  pub width : IfSome s.width (IsSide MAX_WIDTH)
  pub height : IfSome s.height (IsSide MAX_HEIGHT)
  pub rate : IsRate s.rate

found_or : {A : Type 0} (o : Option A) (P : A → Type 0) (f : A → Settings) (e : Why) → IfSome o P → ((a : A) → P a → AreWithin (f a)) → IfOk (ok_or (o >>= λ a. Some (f a)) e) AreWithin
found_or None P f e holds more = tt
found_or (Some a) P f e holds more = more a holds

kept_or : (b : Bool) (s : Settings) (e : Why) → AreWithin s → IfOk (if b then Ok s else Err e) AreWithin
kept_or true s e is = is
kept_or false s e is = tt

set_within : (l : Letter) (value : List ℕ) (s : Settings) → AreWithin s → IfOk (set l value s) AreWithin
set_within letter.Width value s is = found_or (side_of MAX_WIDTH value) (IsSide MAX_WIDTH) _ why.Side (side_within MAX_WIDTH value) (λ n p. record { width = p; height = is.height; rate = is.rate })
set_within letter.Height value s is = found_or (side_of MAX_HEIGHT value) (IsSide MAX_HEIGHT) _ why.Side (side_within MAX_HEIGHT value) (λ n p. record { width = is.width; height = p; rate = is.rate })
set_within letter.Rate value s is = found_or (rate_of value) IsRate _ why.Rate (rate_within value) (λ n p. record { width = is.width; height = is.height; rate = p })
set_within letter.Interlace value s is = kept_or (is_interlace value) s why.Interlace is
set_within letter.Aspect value s is = kept_or (is_some (ratio_of value)) s why.Param is
set_within letter.Colour value s is = kept_or (is_colour value) s why.Colour is
set_within letter.Extension value s is = is
set_within letter.Other value s is = tt

then_within : (left : ℕ) (r : Result Settings Why) (more : Settings → Result Settings Flaw) → IfOk r AreWithin → ((s : Settings) → AreWithin s → IfOk (more s) AreWithin) → IfOk (or_flaw left r more) AreWithin
then_within left (Ok s) more is holds = holds s is
then_within left (Err e) more is holds = tt

all_within : (ps : List Parameter) (s : Settings) → AreWithin s → IfOk (all_set ps s) AreWithin
all_within [] s is = is
all_within (p ∷ ps) s is = then_within p.left (set (letter_of p.letter) p.value s) (all_set ps) (set_within (letter_of p.letter) p.value s is) (all_within ps)

head_within : (width height : Option ℕ) (rate : ℕ × ℕ) → IfSome width (IsSide MAX_WIDTH) → IfSome height (IsSide MAX_HEIGHT) → IsRate rate → IfOk (head_with width height rate) IsRead
head_within None height rate w h r = tt
head_within (Some width) None rate w h r = tt
head_within (Some width) (Some height) rate w h r = record {
  legal = record { sides = record { wide = w.0; not_wider = w.1; high = h.0; not_higher = h.1 }; pictures = r.some; seconds = r.some_seconds };
  pictures = r.fits;
  seconds = r.seconds_fit;
}

whole_within : (r : Result Settings Flaw) → IfOk r AreWithin → IfOk (whole r) IsRead
whole_within (Ok s) is = head_within s.width s.height s.rate is.width is.height is.rate
whole_within (Err flaw) is = tt

pub head_is_read : (text : List ℕ) → IfOk (head_of text) IsRead
head_is_read text =
    whole_within (all_set (parameters text) unset)
    (all_within (parameters text) unset (record { width = tt; height = tt; rate = record { some = omega arith; some_seconds = omega arith; fits = omega arith; seconds_fit = omega arith } }))

pub head_is_head : (text : List ℕ) → IfOk (head_of text) IsHead
head_is_head text = legal_of (head_of text) (head_is_read text)
  where
    legal_of : (r : Result Head Flaw) → IfOk r IsRead → IfOk r IsHead
    legal_of (Ok head) is = is.legal
    legal_of (Err flaw) is = tt

-- ---- where the flaws lie

AllWithin : ℕ → List Parameter → Type 0
AllWithin n [] = Unit {0}
AllWithin n (p ∷ ps) = (p.left ≤ n) × AllWithin n ps

abbrev IsWithin : {X : Type 0} → ℕ → Result X Flaw → Type 0
IsWithin n r = IfErr r (λ flaw. flaw.left ≤ n)

and_within : (n left : ℕ) (r : Result Settings Why) (more : Settings → Result Settings Flaw) → left ≤ n → ((s : Settings) → IsWithin n (more s)) → IsWithin n (or_flaw left r more)
and_within n left (Ok s) more le holds = holds s
and_within n left (Err e) more le holds = le

flaws_within : (n : ℕ) (ps : List Parameter) (s : Settings) → AllWithin n ps → IsWithin n (all_set ps s)
unfolding AllWithin
flaws_within n [] s all = tt
flaws_within n (p ∷ ps) s all = and_within n p.left (set (letter_of p.letter) p.value s) (all_set ps) all.0 (λ s. flaws_within n ps s all.1)

or_within : (n : ℕ) (b : Bool) (p : Parameter) (ps : List Parameter) → p.left ≤ n → AllWithin n ps → AllWithin n (cond b ps (p ∷ ps))
unfolding AllWithin
or_within n true p ps le all = all
or_within n false p ps le all = (le, all)

first_within : (n : ℕ) (text : List ℕ) (ps : List Parameter) → length text ≤ n → AllWithin n ps → AllWithin n (first_and text ps)
first_within n [] ps le all = all
first_within n (byte ∷ text) ps le all = or_within n (byte == 32) (record { letter = byte; value = before_first is_space text; left = length (byte ∷ text) }) ps le all

either_within : (n : ℕ) (b : Bool) (ps qs : List Parameter) → AllWithin n ps → AllWithin n qs → AllWithin n (cond b ps qs)
either_within n true ps qs p q = p
either_within n false ps qs p q = q

parameters_within : (n : ℕ) (text : List ℕ) → length text ≤ n → AllWithin n (parameters text)
unfolding parameters AllWithin
parameters_within n [] le = tt
parameters_within n (byte ∷ text) le =
    let more : AllWithin n (parameters text) = parameters_within n text (omega arith) in
    either_within n (byte == 32) (first_and text (parameters text)) (parameters text) (first_within n text (parameters text) (omega arith) more) more

last_within : (n : ℕ) (width height : Option ℕ) (rate : ℕ × ℕ) → IsWithin n (head_with width height rate)
last_within n None height rate = omega arith
last_within n (Some width) None rate = omega arith
last_within n (Some width) (Some height) rate = tt

flaw_within : (n : ℕ) (r : Result Settings Flaw) → IsWithin n r → IsWithin n (whole r)
flaw_within n (Ok s) is = last_within n s.width s.height s.rate
flaw_within n (Err flaw) is = is

pub head_flaw_within : (text : List ℕ) → IfErr (head_of text) (λ flaw. flaw.left ≤ length text)
head_flaw_within text = flaw_within (length text) (all_set (parameters text) unset) (flaws_within (length text) (parameters text) unset (parameters_within (length text) text (omega arith)))

-- ---- the same of what a call gave

pub ok_is_head : (r : Result Head Flaw) (text : List ℕ) (head : Head) → r ≡ head_of text → r ≡ Ok head → IsHead head
ok_is_head r text head is was = subst (λ (r : Result Head Flaw). IfOk r IsHead) (sym is ∙ was) (head_is_head text)

pub err_within : (r : Result Head Flaw) (n k : ℕ) (line : List ℕ) (flaw : Flaw) → r ≡ head_of (take n (drop k line)) → r ≡ Err flaw → flaw.left ≤ length line
err_within r n k line flaw is was =
    let within : flaw.left ≤ length (take n (drop k line)) = subst (λ (r : Result Head Flaw). IsWithin (length (take n (drop k line))) r) (sym is ∙ was) (head_flaw_within (take n (drop k line))) in
    omega (arith, within, length-take n (drop k line), length-drop k line)
