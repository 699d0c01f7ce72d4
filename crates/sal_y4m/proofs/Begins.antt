-- Whether a line begins a header can be told without what comes after the line.
use Rattle.std.proofs.Common.{◌≡◌, ℕ, ◌<◌, Bool, true, false, List, [], ◌∷◌, ◌++◌, length, take, drop, Some, None, refl, arith}
use Rattle.std.specs.Prelude.{◌&&◌, if◌then◌else◌, nat_eq}
use Rattle.std.specs.Str.{bytes_eq}
use Rattle.sal_y4m.specs.Values.{after}
use Rattle.sal_y4m.specs.Grammar.{magic, is_word, begins_header}

-- a word without a newline
NotEnded : List ℕ → Type 0
NotEnded [] = Unit {0}
NotEnded (byte ∷ word) = (nat_eq 10 byte ≡ false) × NotEnded word

-- the test at one byte more
abbrev one_more : Bool → Bool → List ℕ → Bool
one_more first more rest = is_word (if first && more then Some rest else None)

before_newline : (word line rest : List ℕ) → NotEnded word → is_word (after word (line ++ 10 ∷ rest)) ≡ is_word (after word line)
unfolding NotEnded
before_newline [] [] rest h = refl
before_newline [] (byte ∷ line) rest h = refl
before_newline (w ∷ word) [] rest h = rw h.0 refl
before_newline (w ∷ word) (byte ∷ line) rest h =
    elim (nat_eq byte w) as (λ (b : Bool). one_more b (bytes_eq (take (length word) (line ++ 10 ∷ rest)) word) (drop (length word) (line ++ 10 ∷ rest)) ≡ one_more b (bytes_eq (take (length word) line) word) (drop (length word) line))
    [ true ↦ before_newline word line rest h.1 | false ↦ refl ]

longer : (word line rest : List ℕ) → length word < length line → is_word (after word (line ++ rest)) ≡ is_word (after word line)
longer word [] rest lt = absurd (omega arith)
longer [] (byte ∷ line) rest lt = refl
longer (w ∷ word) (byte ∷ line) rest lt =
    elim (nat_eq byte w) as (λ (b : Bool). one_more b (bytes_eq (take (length word) (line ++ rest)) word) (drop (length word) (line ++ rest)) ≡ one_more b (bytes_eq (take (length word) line) word) (drop (length word) line))
    [ true ↦ longer word line rest (omega arith) | false ↦ refl ]

magic_plain : NotEnded magic
unfolding NotEnded
magic_plain = (refl, (refl, (refl, (refl, (refl, (refl, (refl, (refl, (refl, tt)))))))))

pub begins_line : (line rest : List ℕ) → begins_header (line ++ 10 ∷ rest) ≡ begins_header line
begins_line line rest = before_newline magic line rest magic_plain

pub begins_long : (line rest : List ℕ) → 9 < length line → begins_header (line ++ rest) ≡ begins_header line
begins_long line rest lt = longer magic line rest lt
