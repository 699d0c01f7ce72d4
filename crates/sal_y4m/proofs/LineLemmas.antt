-- A line that was read.
use Rattle.std.proofs.Common.{ℕ, ◌≤◌, List, length, take, Option, subst}
use Rattle.std.proofs.lemmas.List.{take_all}
use Rattle.std.specs.Io.KnownBytes.{Consumes}
use Rattle.sal_io.specs.Told.{NoNewline}
use Rattle.sal_y4m.specs.Parts.{TakesPlain}

pub long_line : (a b : Option (List ℕ)) (i : ℕ) (line : List ℕ) → length line ≤ i → NoNewline (take i line) → Consumes a b (take i line) → TakesPlain a b line
long_line a b i line le plain taken = subst (TakesPlain a b) (take_all i line le) (plain, taken)
