-- Decimal numbers at the front of a text.
use Rattle.std.specs.Prelude.{ℕ, ◌^◌, List, take, drop, Option, Some, None, nat_lt, nat_le, ◌&&◌, if◌then◌else◌}
use Rattle.std.specs.List.{prefix_len}
use Rattle.std.specs.Char.{is_ascii_digit}
use Rattle.std.specs.Str.Parse.{digits_value}

-- the number of these first digits, where they are 1 to 10 and it is below 2 ^ 32, and the rest
abbrev pub decimal_of : ℕ → List ℕ → Option (ℕ × List ℕ)
decimal_of count bytes =
    if nat_lt 0 count && nat_le count 10 && nat_lt (digits_value 10 (take count bytes)) (2 ^ 32)
    then Some (digits_value 10 (take count bytes), drop count bytes)
    else None

-- the number of the digits at the front
abbrev pub decimal_at : List ℕ → Option (ℕ × List ℕ)
decimal_at bytes = decimal_of (prefix_len is_ascii_digit bytes) bytes
