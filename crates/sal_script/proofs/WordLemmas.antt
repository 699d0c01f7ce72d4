-- What a script says, in words of single lines.
use Rattle.std.proofs.Common.{◌≡◌, ℕ, ◌+◌, List, [], ◌∷◌, ◌++◌, length, Option, Some, None, IfSome, Result, Ok, Err, refl, sym, ap, ◌∙◌, subst, arith}
use Rattle.std.specs.List.{flat_map, AllByRecursion}
use Rattle.sal_script.specs.declared.fault.ScriptFault.{ScriptFault}
use Rattle.sal_script.specs.declared.fault.ScriptFault.TheVariants as fault
use Rattle.sal_script.specs.declared.grammar.Meaning.{Meaning}
use Rattle.sal_script.specs.declared.grammar.Meaning.TheVariants.{Skipped, Said, Bad}
use Rattle.sal_script.specs.Numbered.{Numbered}
use Rattle.sal_script.specs.Script.{Line, split_lines, placed, lines_in, meaning, with_first, with_line, judged, IsGood, said_as, IsFirstBad}
use Rattle.sal_script.specs.Steps.{Parses}
use Rattle.sal_script.specs.Reads.{ScriptGives, SaysOf}

abbrev said_in : List Line → List Numbered
said_in lines = flat_map (λ line. said_as (meaning line.end line.bytes) line.number) lines

-- ---- all lines are in the grammar

record AllSaid (lines : List Line) (said : List Numbered) : Type 0 where
  pub good : AllByRecursion IsGood lines
  pub said_is : said ≡ said_in lines

record OneMore (line : Numbered) (r : Result (List Numbered) ℕ) (said : List Numbered) : Type 0 where
  pub more : List Numbered
  pub is : r ≡ Ok more
  pub said_is : said ≡ line ∷ more

one_more : (line : Numbered) (r : Result (List Numbered) ℕ) (said : List Numbered) → with_first line r ≡ Ok said → OneMore line r said
one_more line (Ok more) said e = record { more = more; is = refl; said_is = cc }
one_more line (Err number) said e = absurd cc

all_step : (m : Meaning) (line : Line) (more : List Line) (said : List Numbered) → meaning line.end line.bytes ≡ m → with_line m line.number (judged more) ≡ Ok said
    → ((later : List Numbered) → judged more ≡ Ok later → AllSaid more later) → AllSaid (line ∷ more) said
all_step Skipped line more said is e rest =
    let r = rest said e in
    record { good = (λ bad. absurd cc, r.good); said_is = r.said_is ∙ ap (λ (m : Meaning). said_as m line.number ++ said_in more) (sym is) }
all_step (Said says) line more said is e rest =
    let one = one_more (line.number, says) (judged more) said e in
    let r = rest one.more one.is in
    let here : said ≡ (line.number, says) ∷ said_in more = one.said_is ∙ ap (λ (xs : List Numbered). (line.number, says) ∷ xs) r.said_is in
    record { good = (λ bad. absurd cc, r.good); said_is = here ∙ ap (λ (m : Meaning). said_as m line.number ++ said_in more) (sym is) }
all_step Bad line more said is e rest = absurd cc

all_said : (lines : List Line) (said : List Numbered) → judged lines ≡ Ok said → AllSaid lines said
all_said [] said e = record { good = tt; said_is = cc }
all_said (line ∷ more) said e = all_step (meaning line.end line.bytes) line more said refl e (all_said more)

-- ---- the first that isn't

record FirstBad (lines : List Line) (number : ℕ) : Type 0 where
  pub before : List Line
  pub line : Line
  pub after : List Line
  pub lines_are : lines ≡ before ++ line ∷ after
  pub good : AllByRecursion IsGood before
  pub bad : meaning line.end line.bytes ≡ Bad
  pub number_is : number ≡ line.number

later_bad : (line : Numbered) (r : Result (List Numbered) ℕ) (number : ℕ) → with_first line r ≡ Err number → r ≡ Err number
later_bad line (Ok more) number e = absurd cc
later_bad line (Err n) number e = e

after_good : (line : Line) (more : List Line) (number : ℕ) → IsGood line → FirstBad more number → FirstBad (line ∷ more) number
after_good line more number good first = record {
  before = line ∷ first.before;
  line = first.line;
  after = first.after;
  lines_are = ap (λ (xs : List Line). line ∷ xs) first.lines_are;
  good = (good, first.good);
  bad = first.bad;
  number_is = first.number_is;
}

bad_step : (m : Meaning) (line : Line) (more : List Line) (number : ℕ) → meaning line.end line.bytes ≡ m → with_line m line.number (judged more) ≡ Err number
    → (judged more ≡ Err number → FirstBad more number) → FirstBad (line ∷ more) number
bad_step Skipped line more number is e rest = after_good line more number (λ bad. absurd cc) (rest e)
bad_step (Said says) line more number is e rest = after_good line more number (λ bad. absurd cc) (rest (later_bad _ (judged more) number e))
bad_step Bad line more number is e rest = record { before = []; line = line; after = more; lines_are = refl; good = tt; bad = is; number_is = cc }

first_bad : (lines : List Line) (number : ℕ) → judged lines ≡ Err number → FirstBad lines number
first_bad [] number e = absurd cc
first_bad (line ∷ more) number e = bad_step (meaning line.end line.bytes) line more number refl e (first_bad more number)

-- lines are counted up
counted : (texts : List (List ℕ)) (number end : ℕ) (before : List Line) (line : Line) (after : List Line) → placed number end texts ≡ before ++ line ∷ after → line.number ≡ number + length before
counted [] number end [] line after e = absurd cc
counted [] number end (b ∷ before) line after e = absurd cc
counted (text ∷ texts) number end [] line after e =
    let same : record { number = number; end = end + length text; bytes = text } ≡ line = cc in
    omega (arith, ap (λ (l : Line). l.number) same)
counted (text ∷ texts) number end (b ∷ before) line after e =
    let rest : placed (number + 1) (end + length text) texts ≡ before ++ line ∷ after = cc in
    omega (arith, counted texts (number + 1) (end + length text) before line after rest)

in_words : (script : List ℕ) (number : ℕ) → FirstBad (lines_in script) number → IsFirstBad script number
in_words script number first = record {
  before = first.before;
  line = first.line;
  after = first.after;
  lines = first.lines_are;
  good = first.good;
  bad = first.bad;
  counted = omega (arith, first.number_is, counted (split_lines script) 1 0 first.before first.line first.after first.lines_are);
}

says : (script : List ℕ) (r : Result (List Numbered) ScriptFault) → Parses script r → SaysOf script r
says script (Ok lines) said = let all = all_said (lines_in script) lines said in record { good = all.good; said = all.said_is }
says script (Err (fault.Bad number)) said = in_words script number (first_bad (lines_in script) number said)
says script (Err fault.Memory) said = tt
says script (Err fault.ReadFault) said = tt

pub says_all : (old : Option (List ℕ)) (text lent : List ℕ) (r : Result (List Numbered) ScriptFault) → IfSome old (λ xs. xs ≡ text) → lent ≡ text → Parses lent r → IfSome old (λ script. SaysOf script r)
says_all None text lent r is same said = tt
says_all (Some script) text lent r is same said = subst (λ (t : List ℕ). SaysOf t r) (same ∙ sym is) (says lent r said)

pub says_of : (old new : Option (List ℕ)) (r : Result (List Numbered) ScriptFault) → ScriptGives old new r → IfSome old (λ script. SaysOf script r)
says_of None new r given = tt
says_of (Some script) new (Ok lines) given = says script (Ok lines) given.0
says_of (Some script) new (Err (fault.Bad number)) given = says script (Err (fault.Bad number)) given
says_of (Some script) new (Err fault.Memory) given = tt
says_of (Some script) new (Err fault.ReadFault) given = tt
