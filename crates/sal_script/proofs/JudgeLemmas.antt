-- What lines say, one after the other.
use Rattle.std.proofs.Common.{◌≡◌, ◌≢◌, ℕ, ◌+◌, ◌-◌, ◌<◌, ◌≤◌, Bool, true, false, cond, ◌&&◌, leb, List, [], ◌∷◌, ◌++◌, length, Result, Ok, Err, refl, sym, ap, ◌∙◌, subst, arith, append_assoc, append-nil, length-append}
use Rattle.std.proofs.lemmas.Bool.{lt-leb, leb-true}
use Rattle.sal_script.specs.declared.fault.ScriptFault.{ScriptFault}
use Rattle.sal_script.specs.declared.fault.ScriptFault.TheVariants.{Bad, ReadFault, Memory}
use Rattle.sal_script.specs.declared.grammar.Meaning.{Meaning}
use Rattle.sal_script.specs.declared.grammar.Meaning.TheVariants.{Skipped, Said}
use Rattle.sal_script.specs.declared.grammar.Meaning.TheVariants as meant
use Rattle.sal_script.specs.Numbered.{Numbered}
use Rattle.sal_script.specs.Line.{text_of}
use Rattle.sal_script.specs.Script.{most_script, split_lines, placed, meaning, with_first, with_line, judged, script_of}
use Rattle.sal_script.specs.Steps.{IsFirst, Adds, Parses}

-- these lines before others
abbrev pub joined : List Numbered → Result (List Numbered) ℕ → Result (List Numbered) ℕ
joined script (Ok more) = Ok (script ++ more)
joined script (Err number) = Err number

-- the first lines of a text say this script, and lines from this number on are left
pub record Stands (text : List ℕ) (script : List Numbered) (number end : ℕ) (rest : List ℕ) : Type 0 where
  pub so_far : script_of text ≡ joined script (judged (placed number end (split_lines rest)))
  pub place : end + length rest ≡ length text
  pub few : length script + 1 ≤ number
  pub ahead : number ≤ end + 1
  pub short : end ≤ most_script

abbrev said : List Numbered → Result (List Numbered) ℕ
said lines = Ok lines

none_before : (r : Result (List Numbered) ℕ) → r ≡ joined [] r
none_before (Ok lines) = refl
none_before (Err number) = refl

pub at_start : (text rest : List ℕ) → rest ≡ text → Stands text [] 1 0 rest
at_start text rest e = record {
  so_far = none_before (script_of text) ∙ ap (λ (r : List ℕ). joined [] (script_of r)) (sym e);
  place = omega (arith, ap length e);
  few = omega arith;
  ahead = omega arith;
  short = omega arith;
}

both_true : (a b : Bool) (m : Meaning) → cond (a && b) m meant.Bad ≢ meant.Bad → b ≡ true
both_true true true m h = refl
both_true true false m h = absurd (h refl)
both_true false b m h = absurd (h refl)

one_false : (a b : Bool) (m : Meaning) → b ≡ false → cond (a && b) m meant.Bad ≡ meant.Bad
one_false a true m e = absurd cc
one_false true false m e = refl
one_false false false m e = refl

-- a line of the grammar ends within the most bytes of a script
pub fits : (end : ℕ) (line : List ℕ) → meaning end line ≢ meant.Bad → end ≤ most_script
fits end line h = leb-true end most_script (both_true _ (leb end most_script) _ h)

pub past : (end : ℕ) (line : List ℕ) → most_script < end → meaning end line ≡ meant.Bad
past end line lt = one_false _ (leb end most_script) _ (lt-leb _ _ lt)

adds_good : (m : Meaning) (number : ℕ) (script new : List Numbered) (done : Unit {0}) → Adds m number script new (Ok done) → m ≢ meant.Bad
adds_good Skipped number script new done p = λ e. absurd cc
adds_good (Said line) number script new done p = λ e. absurd cc
adds_good meant.Bad number script new done p = absurd p

at_most_one : (m : Meaning) (number : ℕ) (script new : List Numbered) (done : Unit {0}) → Adds m number script new (Ok done) → length new ≤ length script + 1
at_most_one Skipped number script new done p = omega (arith, ap length p)
at_most_one (Said line) number script new done p = omega (arith, ap length p, length-append script ((number, line) ∷ []))
at_most_one meant.Bad number script new done p = absurd p

push_first : (script : List Numbered) (line : Numbered) (r : Result (List Numbered) ℕ) → joined script (with_first line r) ≡ joined (script ++ line ∷ []) r
push_first script line (Ok more) = ap said (sym (append_assoc script (line ∷ []) more))
push_first script line (Err number) = refl

adds_line : (m : Meaning) (number : ℕ) (script new : List Numbered) (done : Unit {0}) (r : Result (List Numbered) ℕ) → Adds m number script new (Ok done) → joined script (with_line m number r) ≡ joined new r
adds_line Skipped number script new done r p = ap (λ (xs : List Numbered). joined xs r) (sym p)
adds_line (Said line) number script new done r p = push_first script (number, line) r ∙ ap (λ (xs : List Numbered). joined xs r) (sym p)
adds_line meant.Bad number script new done r p = absurd p

-- the first line of what is left, with what comes after it
abbrev FirstSays : List ℕ → List Numbered → ℕ → ℕ → List ℕ → Meaning → Type 0
FirstSays text script number end after m = script_of text ≡ joined script (with_line m number (judged (placed (number + 1) end (split_lines after))))

first_says : (text rest front after : List ℕ) (script : List Numbered) (number end end' : ℕ) (m : Meaning)
    → Stands text script number end rest → (first : IsFirst rest front after) → end' ≡ end + length first.line → m ≡ meaning end' first.line → FirstSays text script number end' after m
first_says text rest front after script number end end' m stands first e means =
    let line = first.line in
    let here : FirstSays text script number (end + length line) after (meaning (end + length line) line) =
    stands.so_far ∙ ap (λ (lines : List (List ℕ)). joined script (judged (placed number end lines))) first.lines in
    let there : FirstSays text script number end' after (meaning end' line) = subst (λ (n : ℕ). FirstSays text script number n after (meaning n line)) (sym e) here in
    subst (FirstSays text script number end' after) (sym means) there

size_of : (rest front after : List ℕ) (size : ℕ) → (first : IsFirst rest front after) → size ≡ length rest - length after → length first.line ≡ size
size_of rest front after size first e = omega (arith, e, ap length first.joined, length-append first.line after)

-- what a line of this text and size means
abbrev pub Means : List ℕ → ℕ → ℕ → Meaning → Type 0
Means front size end m = (line : List ℕ) → length line ≡ size → front ≡ text_of line → m ≡ meaning end line

pub line_added : (text rest front after : List ℕ) (script new : List Numbered) (number end end' size : ℕ) (m : Meaning) (done : Unit {0})
    → Stands text script number end rest → IsFirst rest front after → size ≡ length rest - length after → end' ≡ end + size → Means front size end' m
    → Adds m number script new (Ok done) → Stands text new (number + 1) end' after
line_added text rest front after script new number end end' size m done stands first size_is end_is means added =
    let len : length first.line ≡ size = size_of rest front after size first size_is in
    let says : m ≡ meaning end' first.line = means first.line len first.front_is in
    record {
      so_far = first_says text rest front after script number end end' m stands first (omega (arith, len, end_is)) says ∙ adds_line m number script new done _ added;
      place = omega (arith, stands.place, end_is, len, ap length first.joined, length-append first.line after);
      few = omega (arith, stands.few, at_most_one m number script new done added);
      ahead = omega (arith, stands.ahead, end_is, len, first.some);
      short = fits end' first.line (λ e. adds_good m number script new done added (says ∙ e));
    }

bad_refused : (m : Meaning) (number n : ℕ) (script new : List Numbered) → Adds m number script new (Err (Bad n)) → (m ≡ meant.Bad) × (n ≡ number)
bad_refused Skipped number n script new p = p
bad_refused (Said line) number n script new p = p
bad_refused meant.Bad number n script new p = p

none_failed : (m : Meaning) (number : ℕ) (script new : List Numbered) → Adds m number script new (Err ReadFault) → ⊥
none_failed Skipped number script new p = p
none_failed (Said line) number script new p = p
none_failed meant.Bad number script new p = p

pub line_refused : (text rest front after : List ℕ) (script new : List Numbered) (number end end' size : ℕ) (m : Meaning) (fault : ScriptFault)
    → Stands text script number end rest → IsFirst rest front after → size ≡ length rest - length after → end' ≡ end + size → Means front size end' m
    → Adds m number script new (Err fault) → Parses text (Err fault)
line_refused text rest front after script new number end end' size m (Bad n) stands first size_is end_is means refused =
    let bad = bad_refused m number n script new refused in
    let len : length first.line ≡ size = size_of rest front after size first size_is in
    let says : FirstSays text script number end' after m =
    first_says text rest front after script number end end' m stands first (omega (arith, len, end_is)) (means first.line len first.front_is) in
    let here : script_of text ≡ Err number = subst (FirstSays text script number end' after) bad.0 says in
    subst (λ (k : ℕ). script_of text ≡ Err k) (sym bad.1) here
line_refused text rest front after script new number end end' size m Memory stands first size_is end_is means refused = tt
line_refused text rest front after script new number end end' size m ReadFault stands first size_is end_is means refused = none_failed m number script new refused

pub all_said : (text rest : List ℕ) (script : List Numbered) (number end : ℕ) → Stands text script number end rest → length rest ≡ 0 → script_of text ≡ Ok script
unfolding split_lines
all_said text [] script number end stands e = stands.so_far ∙ ap said (append-nil script)
all_said text (x ∷ rest) script number end stands e = absurd (omega (arith, e))
