-- The values of a header's parameters.
use Rattle.std.specs.Prelude.{ℕ, Bool, List, length, take, drop, Option, Some, None, nat_le, ◌==◌, ◌&&◌, ◌||◌, if◌then◌else◌, codes}
use Rattle.std.specs.Str.{bytes_eq}
use Rattle.sal_base.specs.Digits.{decimal_at}
use Rattle.sal_io.specs.Told.{◌>>=◌}

-- what comes after a word
abbrev pub after : List ℕ → List ℕ → Option (List ℕ)
after word bytes = if bytes_eq (take (length word) bytes) word then Some (drop (length word) bytes) else None

-- a number of 1 to 10 digits, below 2 to the 32
abbrev pub number_of : List ℕ → Option ℕ
number_of text = do
  found ← decimal_at text
  if length found.1 == 0 then Some found.0 else None

-- two numbers with a colon between them
abbrev pub ratio_of : List ℕ → Option (ℕ × ℕ)
ratio_of text = do
  first ← decimal_at text
  rest ← after (codes ":") first.1
  second ← number_of rest
  Some (first.0, second)

-- a side, from 1 to this limit
abbrev pub side_of : ℕ → List ℕ → Option ℕ
side_of most text = do
  side ← number_of text
  if nat_le 1 side && nat_le side most then Some side else None

-- a rate, both of whose numbers are at least 1, or `0:0`, which is that of a header without one
abbrev pub rate_of : List ℕ → Option (ℕ × ℕ)
rate_of text =
    if bytes_eq text (codes "0:0") then Some (30, 1)
    else ratio_of text >>= λ rate. if nat_le 1 rate.0 && nat_le 1 rate.1 then Some rate else None

-- progressive, or not known
abbrev pub is_interlace : List ℕ → Bool
is_interlace text = bytes_eq text (codes "p") || bytes_eq text (codes "?")

-- the four forms of 4:2:0, which differ only in where the chroma samples lie
abbrev pub is_colour : List ℕ → Bool
is_colour text =
    bytes_eq text (codes "420") || bytes_eq text (codes "420jpeg") || bytes_eq text (codes "420mpeg2") || bytes_eq text (codes "420paldv")
