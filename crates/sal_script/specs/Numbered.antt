-- Lines with their numbers.
use Rattle.std.specs.Prelude.{ℕ}
use Rattle.sal_script.specs.declared.line.ScriptLine.{ScriptLine}

-- a line that isn't skipped, with its number from 1 among all lines
abbrev pub Numbered : Type 0
Numbered = ℕ × ScriptLine
