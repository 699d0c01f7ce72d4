-- The words of a line, and what single words say.
use Rattle.std.specs.Prelude.{ℕ, ◌^◌, List, [], ◌∷◌, ◌++◌, length, get_or, drop, take, replicate, Bool, true, false, not, Option, Some, None, nat_lt, ◌==◌, ◌&&◌, ◌||◌, if◌then◌else◌, codes}
use Rattle.std.specs.List.{slice_split}
use Rattle.std.specs.Str.{bytes_eq, all_ascii_digits}
use Rattle.std.specs.Str.Parse.{digits_value}
use Rattle.hex.specs.Hex.{encode_lower, decode_sized}
use Rattle.std.specs.Result.{result_ok}
use Rattle.sal_base.specs.declared.name.Name.{Name}
use Rattle.sal_io.specs.Told.{◌>>=◌}
use Rattle.sal_sender.specs.declared.choice.JobRole.{JobRole}
use Rattle.sal_sender.specs.declared.choice.JobRole.TheVariants.{Coarse, Spare, Fine}
use Rattle.sal_sender.specs.declared.choice.Size.{Size}
use Rattle.sal_sender.specs.declared.choice.Size.TheVariants.{Datagrams, Oversize, NoMemory}

-- ---- words

-- what stands between single spaces
abbrev pub words_in : List ℕ → List (List ℕ)
words_in text = slice_split (λ byte. byte == 32) text

abbrev pub next_word : List (List ℕ) → Option (List ℕ × List (List ℕ))
next_word [] = None
next_word (word ∷ words) = Some (word, words)

abbrev pub last_word : List (List ℕ) → Option (List ℕ)
last_word [] = None
last_word (word ∷ []) = Some word
last_word (word ∷ next ∷ words) = None

-- ---- what a word says

-- decimal digits, with no zero in front unless it is 0 itself
abbrev pub is_plain : List ℕ → Bool
is_plain word = all_ascii_digits word && nat_lt 0 (length word) && (not (get_or word 0 0 == 48) || length word == 1)

-- a number of so many bits
unfoldable pub number_of : ℕ → List ℕ → Option ℕ
number_of bits word = if is_plain word && nat_lt (digits_value 10 word) (2 ^ bits) then Some (digits_value 10 word) else None

-- one of two words, and whether it is the first
abbrev pub either_of : List ℕ → List ℕ → List ℕ → Option Bool
either_of first second word = if bytes_eq word first then Some true else if bytes_eq word second then Some false else None

abbrev pub role_of : List ℕ → Option JobRole
role_of word =
    if bytes_eq word (codes "coarse") then Some Coarse
    else if bytes_eq word (codes "spare") then Some Spare
    else if bytes_eq word (codes "fine") then Some Fine
    else None

-- a number of datagrams; a minus alone; or a minus and the bytes of a first partition
abbrev pub size_of : List ℕ → Option Size
size_of word =
    if bytes_eq word (codes "-") then Some NoMemory
    else if bytes_eq (take 1 word) (codes "-") then number_of 32 (drop 1 word) >>= (λ first. Some (Oversize first))
    else (number_of 32 word >>= λ count. Some (Datagrams count))

-- a name of these first 8 bytes
abbrev pub named_by : List ℕ → Name
named_by bytes = record { 0 = bytes ++ replicate 8 0 }

-- the name of which the word is the lower-case digits
unfoldable pub name_of : List ℕ → Option Name
name_of word = result_ok (decode_sized word 8) >>= λ bytes. if bytes_eq (encode_lower bytes) word then Some (named_by bytes) else None
