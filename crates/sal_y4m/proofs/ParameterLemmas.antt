-- Parameters, one after the other.
use Rattle.std.proofs.Common.{◌≡◌, ◌≢◌, ℕ, suc, ◌+◌, ◌<◌, ◌≤◌, Bool, true, false, cond, List, [], ◌∷◌, length, drop, get_or, take, Result, Ok, Err, refl, sym, ap, ◌∙◌, subst, arith, drop-cons, eqb, eq-eqb}
use Rattle.std.proofs.lemmas.Bool.{ne_eqb}
use Rattle.std.proofs.lemmas.List.{take_all, drop_all}
use Rattle.sal_y4m.specs.declared.fault.Why.{Why}
use Rattle.sal_y4m.specs.declared.fault.Flaw.{Flaw}
use Rattle.sal_y4m.specs.declared.parameters.Settings.{Settings}
use Rattle.sal_y4m.specs.Parameters.{letter_of, set, Parameter, first_and, is_space, parameters, or_flaw, and_then, all_set}
use Rattle.std.specs.List.{before_first}
use Rattle.std.specs.Result.{IsErrAnd}

-- ---- the first parameter, and then the others

flaw_then : (left : ℕ) (r : Result Settings Why) (f : Settings → Result Settings Flaw) → or_flaw left r f ≡ and_then (or_flaw left r (λ s. Ok s)) f
flaw_then left (Ok s) f = refl
flaw_then left (Err why) f = refl

first_case : (byte : ℕ) (text : List ℕ) (more : List Parameter) (s : Settings) (space : Bool) (p : Parameter)
    → all_set (cond space more (p ∷ more)) s ≡ and_then (all_set (cond space [] (p ∷ [])) s) (all_set more)
first_case byte text more s true p = refl
first_case byte text more s false p = flaw_then p.left (set (letter_of p.letter) p.value s) (all_set more)

pub first_then : (text : List ℕ) (more : List Parameter) (s : Settings) → all_set (first_and text more) s ≡ and_then (all_set (first_and text []) s) (all_set more)
first_then [] more s = refl
first_then (byte ∷ text) more s = first_case byte text more s (eqb byte 32) _

-- a parameter that was set
begun : (text rest value : List ℕ) (byte : ℕ) (s : Settings) → text ≡ byte ∷ rest → byte ≢ 32 → value ≡ before_first is_space rest
    → all_set (first_and text []) s ≡ or_flaw (length text) (set (letter_of byte) value s) (λ s. Ok s)
begun text rest value byte s is other value_is =
    let more : Bool → Result Settings Flaw = λ b. all_set (cond b [] (record { letter = byte; value = before_first is_space rest; left = length (byte ∷ rest) } ∷ [])) s in
    let there : all_set (first_and (byte ∷ rest) []) s ≡ or_flaw (length (byte ∷ rest)) (set (letter_of byte) value s) (λ s. Ok s) =
    ap more (ne_eqb byte 32 other) ∙ ap (λ (v : List ℕ). or_flaw (length (byte ∷ rest)) (set (letter_of byte) v s) (λ s. Ok s)) (sym value_is) in
    subst (λ (t : List ℕ). all_set (first_and t []) s ≡ or_flaw (length t) (set (letter_of byte) value s) (λ s. Ok s)) (sym is) there

pub begun_well : (text rest value : List ℕ) (byte : ℕ) (s now : Settings) → text ≡ byte ∷ rest → byte ≢ 32 → value ≡ before_first is_space rest
    → set (letter_of byte) value s ≡ Ok now → Ok now ≡ all_set (first_and text []) s
begun_well text rest value byte s now is other value_is was =
    sym (begun text rest value byte s is other value_is ∙ ap (λ (r : Result Settings Why). or_flaw (length text) r (λ s. Ok s)) was)

pub begun_badly : (text rest value : List ℕ) (byte : ℕ) (s : Settings) (why : Why) → text ≡ byte ∷ rest → byte ≢ 32 → value ≡ before_first is_space rest
    → set (letter_of byte) value s ≡ Err why → Err (record { left = length text; why = why }) ≡ all_set (first_and text []) s
begun_badly text rest value byte s why is other value_is was =
    sym (begun text rest value byte s is other value_is ∙ ap (λ (r : Result Settings Why). or_flaw (length text) r (λ s. Ok s)) was)

-- ---- from one byte to the next

parameters_at : (text : List ℕ) (at : ℕ) (b : Bool) → at < length text → eqb (get_or text at 0) 32 ≡ b
    → parameters (drop at text) ≡ cond b (first_and (drop (at + 1) text) (parameters (drop (at + 1) text))) (parameters (drop (at + 1) text))
unfolding parameters
parameters_at text at b lt e =
    let cut : drop at text ≡ get_or text at 0 ∷ drop (suc at) text = drop-cons text at 0 lt in
    let more : suc at ≡ at + 1 = omega arith in
    let rest : List ℕ = drop (suc at) text in
    let there : parameters (drop at text) ≡ cond b (first_and rest (parameters rest)) (parameters rest) =
    ap parameters cut ∙ ap (λ (b : Bool). cond b (first_and rest (parameters rest)) (parameters rest)) e in
    subst (λ (n : ℕ). parameters (drop at text) ≡ cond b (first_and (drop n text) (parameters (drop n text))) (parameters (drop n text))) more there

pub past_other : (text : List ℕ) (at : ℕ) (s : Settings) → at < length text → get_or text at 0 ≢ 32
    → all_set (parameters (drop at text)) s ≡ all_set (parameters (drop (at + 1) text)) s
past_other text at s lt other = ap (λ (ps : List Parameter). all_set ps s) (parameters_at text at false lt (ne_eqb (get_or text at 0) 32 other))

pub past_space : (text : List ℕ) (at n : ℕ) (s : Settings) (r : Result Settings Flaw) → at < length text → get_or text at 0 ≡ 32
    → length (drop (at + 1) text) ≤ n → r ≡ all_set (first_and (take n (drop (at + 1) text)) []) s
    → all_set (parameters (drop at text)) s ≡ and_then r (all_set (parameters (drop (at + 1) text)))
past_space text at n s r lt space all is =
    let more : Settings → Result Settings Flaw = all_set (parameters (drop (at + 1) text)) in
    ap (λ (ps : List Parameter). all_set ps s) (parameters_at text at true lt (eq-eqb (get_or text at 0) 32 space))
    ∙ first_then (drop (at + 1) text) (parameters (drop (at + 1) text)) s
    ∙ ap (λ (r : Result Settings Flaw). and_then r more) (sym (is ∙ ap (λ (t : List ℕ). all_set (first_and t []) s) (take_all n (drop (at + 1) text) all)))

-- ---- where all steps lead

pub go_on : (r : Result Settings Flaw) (s : Settings) (more : Settings → Result Settings Flaw) (now end : Result Settings Flaw) → now ≡ end → now ≡ and_then r more → r ≡ Ok s → more s ≡ end
go_on r s more now end is step was = sym (ap (λ (r : Result Settings Flaw). and_then r more) was) ∙ sym step ∙ is

pub stop_at : (r : Result Settings Flaw) (flaw : Flaw) (more : Settings → Result Settings Flaw) (now end out : Result Settings Flaw)
    → now ≡ end → now ≡ and_then r more → r ≡ Err flaw → IsErrAnd out (λ e. e ≡ flaw) → out ≡ end
stop_at r flaw more now end (Ok x) is step was e = absurd e
stop_at r flaw more now end (Err x) is step was e = ap (λ (f : Flaw). Err f) e ∙ sym (ap (λ (r : Result Settings Flaw). and_then r more) was) ∙ sym step ∙ is

no_more : (text : List ℕ) (at : ℕ) → length text ≤ at → parameters (drop at text) ≡ []
unfolding parameters
no_more text at le = ap parameters (drop_all at text le)

pub all_done : (text : List ℕ) (at : ℕ) (s : Settings) (end : Result Settings Flaw) → length text ≤ at → all_set (parameters (drop at text)) s ≡ end → Ok s ≡ end
all_done text at s end le is = ap (λ (ps : List Parameter). all_set ps s) (sym (no_more text at le)) ∙ is
