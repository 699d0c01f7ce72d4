-- What the steps of parsing give.
use Rattle.std.specs.Prelude.{◌≡◌, ℕ, ◌≤◌, List, [], ◌∷◌, ◌++◌, length, Result, Ok, Err}
use Rattle.sal_script.specs.declared.fault.ScriptFault.{ScriptFault}
use Rattle.sal_script.specs.declared.fault.ScriptFault.TheVariants.{Bad, ReadFault, Memory}
use Rattle.sal_script.specs.declared.grammar.Meaning.{Meaning}
use Rattle.sal_script.specs.declared.grammar.Meaning.TheVariants.{Skipped, Said}
use Rattle.sal_script.specs.declared.grammar.Meaning.TheVariants as meaning
use Rattle.sal_script.specs.Numbered.{Numbered}
use Rattle.sal_script.specs.Line.{text_of}
use Rattle.sal_script.specs.Script.{split_lines, script_of}

-- a text without its first line, and that line without its newline
pub record IsFirst (text front rest : List ℕ) : Type 0 where
  pub line : List ℕ
  pub some : 1 ≤ length line
  pub joined : text ≡ line ++ rest
  pub lines : split_lines text ≡ line ∷ split_lines rest
  pub front_is : front ≡ text_of line

-- a line of this meaning and number is added to these, unless it is skipped; memory may be wanting only for one that says
-- something, and then nothing is added
abbrev pub Adds : Meaning → ℕ → List Numbered → List Numbered → Result (Unit {0}) ScriptFault → Type 0
Adds Skipped number old new (Ok done) = new ≡ old
Adds (Said line) number old new (Ok done) = new ≡ old ++ (number, line) ∷ []
Adds meaning.Bad number old new (Ok done) = ⊥
Adds meant number old new (Err (Bad n)) = (meant ≡ meaning.Bad) × (n ≡ number)
Adds Skipped number old new (Err Memory) = ⊥
Adds (Said line) number old new (Err Memory) = new ≡ old
Adds meaning.Bad number old new (Err Memory) = ⊥
Adds meant number old new (Err ReadFault) = ⊥

-- what these bytes say, or want of memory
abbrev pub Parses : List ℕ → Result (List Numbered) ScriptFault → Type 0
Parses text (Ok lines) = script_of text ≡ Ok lines
Parses text (Err (Bad number)) = script_of text ≡ Err number
Parses text (Err Memory) = Unit {0}
Parses text (Err ReadFault) = ⊥
