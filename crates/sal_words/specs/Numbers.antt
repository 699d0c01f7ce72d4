-- Numbers and addresses in words.
use Rattle.std.specs.Prelude.{ℕ, ◌+◌, ◌*◌, ◌==◌, ◌&&◌, length, Option, Some, None, nat_lt, nat_le, if◌then◌else◌}
use Rattle.std.specs.List.{position_or_len, before_first, after_first}
use Rattle.std.specs.Str.{all_ascii_digits}
use Rattle.std.specs.Str.Parse.{digits_value}
use Rattle.sal_words.specs.declared.address.Address.{Address}
use Rattle.sal_words.specs.Words.{Text, ◌>>=◌}

-- a number has at most so many digits
abbrev pub most_digits : ℕ
most_digits = 20

-- decimal digits, without a sign
abbrev pub number_of : Text → Option ℕ
number_of text =
    if nat_lt 0 (length text) && nat_le (length text) most_digits && all_ascii_digits text then Some (digits_value 10 text) else None

-- the same within these bounds
abbrev pub number_within : ℕ → ℕ → Text → Option ℕ
number_within least most text = number_of text >>= λ n. if nat_le least n && nat_le n most then Some n else None

-- what stands before and after the first such byte
abbrev pub cut : ℕ → Text → Option (Text × Text)
cut byte text =
    if nat_lt (position_or_len (λ b. b == byte) text) (length text)
    then Some (before_first (λ b. b == byte) text, after_first (λ b. b == byte) text) else None

-- four numbers of 0 to 255 joined by dots (46), the first being the highest byte
abbrev pub host_of : Text → Option ℕ
host_of text = do
  a ← cut 46 text
  b ← cut 46 a.1
  c ← cut 46 b.1
  first ← number_within 0 255 a.0
  second ← number_within 0 255 b.0
  third ← number_within 0 255 c.0
  fourth ← number_within 0 255 c.1
  Some (((first * 256 + second) * 256 + third) * 256 + fourth)

-- a host, a colon (58), and a port of 1 to 65535
abbrev pub address_of : Text → Option Address
address_of text = do
  ends ← cut 58 text
  host ← host_of ends.0
  port ← number_within 1 65535 ends.1
  Some (record { host = host; port = port })
