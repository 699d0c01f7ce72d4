-- What one line says.
use Rattle.std.specs.Prelude.{ℕ, Bool, List, length, take, drop, Option, Some, None, ◌==◌, ◌&&◌, ◌||◌, nat_le, if◌then◌else◌, codes}
use Rattle.std.specs.Str.{bytes_eq}
use Rattle.std.specs.List.{before_first}
use Rattle.sal_base.specs.Digits.{decimal_at}
use Rattle.sal_io.specs.Told.{◌>>=◌}
use Rattle.sal_script.specs.declared.line.ScriptLine.{ScriptLine}
use Rattle.sal_script.specs.declared.line.ScriptLine.TheVariants.{Next, NextLate, Down, Up, DownAll, UpAll, Wait, Rest}

abbrev pub is_newline : ℕ → Bool
is_newline byte = byte == 10

-- a line without its newline
abbrev pub text_of : List ℕ → List ℕ
text_of line = before_first is_newline line

-- what comes after a word
abbrev pub after : List ℕ → List ℕ → Option (List ℕ)
after word text = if bytes_eq (take (length word) text) word then Some (drop (length word) text) else None

-- a text that is a word, and then a number of 1 to 10 digits within these bounds
abbrev pub number_after : List ℕ → ℕ → ℕ → List ℕ → Option ℕ
number_after word least most text = do
  rest ← after word text
  number ← decimal_at rest
  if length number.1 == 0 && nat_le least number.0 && nat_le number.0 most then Some number.0 else None

abbrev pub or_else : {A : Type 0} → Option A → Option A → Option A
or_else None other = other
or_else (Some x) other = Some x

-- the lines of words alone
abbrev pub word_line : List ℕ → Option ScriptLine
word_line text =
    if bytes_eq text (codes "next") then Some Next
    else if bytes_eq text (codes "next late") then Some NextLate
    else if bytes_eq text (codes "downall") then Some DownAll
    else if bytes_eq text (codes "upall") then Some UpAll
    else if bytes_eq text (codes "rest") then Some Rest
    else None

-- the longest wait, in microseconds
abbrev pub most_wait : ℕ
most_wait = 1000000000

-- the lines of a word, one space and a number
abbrev pub number_line : List ℕ → Option ScriptLine
number_line text =
    or_else (number_after (codes "down ") 1 4294967295 text >>= λ k. Some (Down k))
    (or_else (number_after (codes "up ") 1 4294967295 text >>= λ k. Some (Up k))
    (number_after (codes "wait ") 0 most_wait text >>= λ time. Some (Wait time)))

-- what a line says, without its newline
abbrev pub line_of : List ℕ → Option ScriptLine
line_of text = or_else (word_line text) (number_line text)

-- an empty line, or one that begins with `#`
abbrev pub is_skipped : List ℕ → Bool
is_skipped text = length text == 0 || bytes_eq (take 1 text) (codes "#")
