-- What a script says.
use Rattle.std.specs.Prelude.{◌≡◌, ◌≢◌, ℕ, ◌+◌, List, [], ◌∷◌, ◌++◌, length, Option, None, Some, Result, Ok, Err, ◌==◌, ◌&&◌, nat_le, if◌then◌else◌}
use Rattle.std.specs.List.{onto_first, flat_map, AllByRecursion}
use Rattle.sal_script.specs.declared.line.ScriptLine.{ScriptLine}
use Rattle.sal_script.specs.declared.grammar.Meaning.{Meaning}
use Rattle.sal_script.specs.declared.grammar.Meaning.TheVariants.{Skipped, Said, Bad}
use Rattle.sal_script.specs.Numbered.{Numbered}
use Rattle.sal_script.specs.Line.{text_of, line_of, is_skipped}

-- a script has at most so many bytes, and a line with its newline so many
abbrev pub most_script : ℕ
most_script = 16777216

abbrev pub most_line : ℕ
most_line = 64

-- the lines of a text, each with its newline, which the last may lack
unfoldable pub split_lines : List ℕ → List (List ℕ)
split_lines [] = []
split_lines (byte ∷ text) = if byte == 10 then (byte ∷ []) ∷ split_lines text else onto_first byte (split_lines text)

-- a line with its newline, its number from 1, and how many bytes of the script there are up to its end
pub record Line : Type 0 where
  pub number : ℕ
  pub end : ℕ
  pub bytes : List ℕ

-- these lines, the first with this number, after so many bytes
abbrev pub placed : ℕ → ℕ → List (List ℕ) → List Line
placed number before [] = []
placed number before (line ∷ more) = record { number = number; end = before + length line; bytes = line } ∷ placed (number + 1) (before + length line) more

abbrev pub lines_in : List ℕ → List Line
lines_in script = placed 1 0 (split_lines script)

-- what a text says as a line
abbrev pub said_by : Option ScriptLine → Meaning
said_by None = Bad
said_by (Some line) = Said line

-- what a line means up to whose end there are so many bytes: one that is too long, or goes past the most bytes of a script,
-- isn't in the grammar
abbrev pub meaning : ℕ → List ℕ → Meaning
meaning end line =
    if nat_le (length line) most_line && nat_le end most_script
    then (if is_skipped (text_of line) then Skipped else said_by (line_of (text_of line)))
    else Bad

-- one line before others
abbrev pub with_first : Numbered → Result (List Numbered) ℕ → Result (List Numbered) ℕ
with_first line (Ok more) = Ok (line ∷ more)
with_first line (Err number) = Err number

-- a line of this meaning and number before what comes after it
abbrev pub with_line : Meaning → ℕ → Result (List Numbered) ℕ → Result (List Numbered) ℕ
with_line Skipped number more = more
with_line (Said line) number more = with_first (number, line) more
with_line Bad number more = Err number

-- all that lines say, or the number of the first that isn't in the grammar
abbrev pub judged : List Line → Result (List Numbered) ℕ
judged [] = Ok []
judged (line ∷ more) = with_line (meaning line.end line.bytes) line.number (judged more)

-- what a script says: its lines that aren't skipped, each with its number, or the number of the first line that isn't in
-- the grammar
abbrev pub script_of : List ℕ → Result (List Numbered) ℕ
script_of script = judged (lines_in script)

-- ---- the same in words of single lines

abbrev pub IsGood : Line → Type 0
IsGood line = meaning line.end line.bytes ≢ Bad

abbrev pub said_as : Meaning → ℕ → List Numbered
said_as Skipped number = []
said_as (Said line) number = (number, line) ∷ []
said_as Bad number = []

-- all lines of a script are in the grammar, and these are what they say, in order
pub record IsAllSaid (script : List ℕ) (lines : List Numbered) : Type 0 where
  pub good : AllByRecursion IsGood (lines_in script)
  pub said : lines ≡ flat_map (λ line. said_as (meaning line.end line.bytes) line.number) (lines_in script)

-- the line of this number, counted from 1 over all lines, is the first that isn't in the grammar
pub record IsFirstBad (script : List ℕ) (number : ℕ) : Type 0 where
  pub before : List Line
  pub line : Line
  pub after : List Line
  pub lines : lines_in script ≡ before ++ line ∷ after
  pub good : AllByRecursion IsGood before
  pub bad : meaning line.end line.bytes ≡ Bad
  pub counted : number ≡ length before + 1
