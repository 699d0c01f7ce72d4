-- What reading a line does.
use Rattle.std.specs.Prelude.{ℕ, ◌<◌, ◌≤◌, List, [], ◌∷◌, ◌++◌, length, take, Option, IfSome, ◌≡◌}
use Rattle.std.specs.Io.KnownBytes.{Consumes}
use Rattle.sal_io.specs.declared.line.LineRead.{LineRead}
use Rattle.sal_io.specs.declared.line.LineRead.TheVariants.{Whole, End, Broken, Failed}
use Rattle.sal_io.specs.Told.{ReadsAs, Lacks, NoNewline, line_within}

-- a line shorter than the buffer was read; or no line is in front, and nothing at all at the end
abbrev pub LineGives : Option (List ℕ) → Option (List ℕ) → LineRead → List ℕ → Type 0
LineGives old new (Whole n) buf = (n < length buf) × ReadsAs (line_within (length buf)) old new (take n buf)
LineGives old new Broken buf = Lacks (line_within (length buf)) old
LineGives old new End buf = IfSome old (λ xs. xs ≡ []) × Lacks (line_within (length buf)) old
LineGives old new Failed buf = Unit {0}

-- so many bytes were taken and stored, none of them a newline
pub record TakesPlain (old new : Option (List ℕ)) (buf : List ℕ) (count : ℕ) : Type 0 where
  pub plain : NoNewline (take count buf)
  pub taken : Consumes old new (take count buf)

-- what is taken: a whole line with its newline; nothing at the end; a broken line fills the buffer or is all that was left; and
-- where the source fails, the bytes before that
abbrev pub LineTakes : Option (List ℕ) → Option (List ℕ) → LineRead → List ℕ → Type 0
LineTakes old new (Whole n) buf = Consumes old new (take n buf ++ 10 ∷ [])
LineTakes old new End buf = Consumes old new []
LineTakes old new Broken buf = (n : ℕ) × (n ≤ length buf) × TakesPlain old new buf n × (n < length buf → IfSome old (λ xs. xs ≡ take n buf))
LineTakes old new Failed buf = (n : ℕ) × (n < length buf) × TakesPlain old new buf n
