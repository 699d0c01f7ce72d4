-- Numbers and names that were read stand in the bytes as they are spelled.
use Rattle.std.proofs.Common.{◌≡◌, ℕ, ◌+◌, ◌^◌, ◌<◌, ◌≤◌, true, List, [], ◌∷◌, ◌++◌, length, drop, eqb, refl, sym, ap, ◌∙◌, arith}
use Rattle.std.specs.Prelude.{slice_index}
use Rattle.std.proofs.lemmas.Bool.{eqb-true}
use Rattle.std.proofs.lemmas.List.{get_or-drop, drop_more}
use Rattle.byteorder.specs.Endian.{big_number}
use Rattle.byteorder.specs.Numbers.{big_from-lt}
use Rattle.sal_wire.specs.Layout.{u32_bytes, u16_bytes, name_bytes, IsWireName}
use Rattle.sal_wire.specs.Parsing.{big_endian_at, name_at}

-- all bytes are below 256
abbrev pub AreBytes : List ℕ → Type 0
AreBytes bytes = (i : ℕ) → slice_index bytes i < 256

pub bytes_after : (n : ℕ) (bytes : List ℕ) → AreBytes bytes → AreBytes (drop n bytes)
bytes_after n bytes are i = rw (get_or-drop n bytes i 0) (are (n + i))

-- a number that was read is spelled as it stood
cells : (a b c d a' b' c' d' : ℕ) → a ≡ a' → b ≡ b' → c ≡ c' → d ≡ d' → a ∷ b ∷ c ∷ d ∷ [] ≡ a' ∷ b' ∷ c' ∷ d' ∷ []
cells a b c d a' b' c' d' ea eb ec ed = cc

two_cells : (a b a' b' : ℕ) → a ≡ a' → b ≡ b' → a ∷ b ∷ [] ≡ a' ∷ b' ∷ []
two_cells a b a' b' ea eb = cc

four_again : (a b c d : ℕ) (rest : List ℕ) → a < 256 → b < 256 → c < 256 → d < 256 → u32_bytes (big_number 4 (a ∷ b ∷ c ∷ d ∷ rest)) ≡ a ∷ b ∷ c ∷ d ∷ []
unfolding u32_bytes
four_again a b c d rest ha hb hc hd = cells _ _ _ _ _ _ _ _ (omega arith) (omega arith) (omega arith) (omega arith)

two_again : (a b : ℕ) (rest : List ℕ) → a < 256 → b < 256 → u16_bytes (big_number 2 (a ∷ b ∷ rest)) ≡ a ∷ b ∷ []
unfolding u16_bytes
two_again a b rest ha hb = two_cells _ _ _ _ (omega arith) (omega arith)

four_front : (front rest : List ℕ) (a b c d : ℕ) → front ≡ a ∷ b ∷ c ∷ d ∷ rest → a < 256 → b < 256 → c < 256 → d < 256 → u32_bytes (big_number 4 front) ++ rest ≡ front
four_front front rest a b c d e ha hb hc hd = ap (λ x. u32_bytes (big_number 4 x) ++ rest) e ∙ ap (λ x. x ++ rest) (four_again a b c d rest ha hb hc hd) ∙ sym e

two_front : (front rest : List ℕ) (a b : ℕ) → front ≡ a ∷ b ∷ rest → a < 256 → b < 256 → u16_bytes (big_number 2 front) ++ rest ≡ front
two_front front rest a b e ha hb = ap (λ x. u16_bytes (big_number 2 x) ++ rest) e ∙ ap (λ x. x ++ rest) (two_again a b rest ha hb) ∙ sym e

-- the bytes from a place on, two and four of them apart
two_there : (bytes : List ℕ) (p : ℕ) → p + 2 ≤ length bytes → drop p bytes ≡ slice_index bytes p ∷ slice_index bytes (p + 1) ∷ drop (p + 2) bytes
two_there bytes p h =
    let first : drop p bytes ≡ slice_index bytes p ∷ drop (p + 1) bytes = drop_more bytes p 0 (omega arith) in
    let second : drop (p + 1) bytes ≡ slice_index bytes (p + 1) ∷ drop (p + 1 + 1) bytes = drop_more bytes (p + 1) 0 (omega arith) in
    let same : p + 1 + 1 ≡ p + 2 = omega arith in
    first ∙ ap (λ x. slice_index bytes p ∷ x) (second ∙ ap (λ n. slice_index bytes (p + 1) ∷ drop n bytes) same)

four_there : (bytes : List ℕ) (p : ℕ) → p + 4 ≤ length bytes
    → drop p bytes ≡ slice_index bytes p ∷ slice_index bytes (p + 1) ∷ slice_index bytes (p + 2) ∷ slice_index bytes (p + 3) ∷ drop (p + 4) bytes
four_there bytes p h =
    let first : drop p bytes ≡ slice_index bytes p ∷ slice_index bytes (p + 1) ∷ drop (p + 2) bytes = two_there bytes p (omega arith) in
    let second : drop (p + 2) bytes ≡ slice_index bytes (p + 2) ∷ slice_index bytes (p + 2 + 1) ∷ drop (p + 2 + 2) bytes = two_there bytes (p + 2) (omega arith) in
    let one : p + 2 + 1 ≡ p + 3 = omega arith in
    let two : p + 2 + 2 ≡ p + 4 = omega arith in
    first ∙ ap (λ x. slice_index bytes p ∷ slice_index bytes (p + 1) ∷ x) (second ∙ (ap (λ n. slice_index bytes (p + 2) ∷ slice_index bytes n ∷ drop (p + 2 + 2) bytes) one ∙ ap (λ n. slice_index bytes (p + 2) ∷ slice_index bytes (p + 3) ∷ drop n bytes) two))

-- a field that was read is spelled as it stood, with what comes after it
pub quad_again : (bytes : List ℕ) (p q : ℕ) → AreBytes bytes → q ≡ p + 4 → p + 4 ≤ length bytes → u32_bytes (big_endian_at 4 p bytes) ++ drop q bytes ≡ drop p bytes
quad_again bytes p q are e h =
    four_front (drop p bytes) (drop q bytes) _ _ _ _ (four_there bytes p h ∙ ap (λ n. slice_index bytes p ∷ slice_index bytes (p + 1) ∷ slice_index bytes (p + 2) ∷ slice_index bytes (p + 3) ∷ drop n bytes) (sym e)) (are p) (are (p + 1)) (are (p + 2)) (are (p + 3))

pub pair_again : (bytes : List ℕ) (p q : ℕ) → AreBytes bytes → q ≡ p + 2 → p + 2 ≤ length bytes → u16_bytes (big_endian_at 2 p bytes) ++ drop q bytes ≡ drop p bytes
pair_again bytes p q are e h =
    two_front (drop p bytes) (drop q bytes) _ _ (two_there bytes p h ∙ ap (λ n. slice_index bytes p ∷ slice_index bytes (p + 1) ∷ drop n bytes) (sym e)) (are p) (are (p + 1))

pub name_again : (bytes : List ℕ) (p q : ℕ) → q ≡ p + 8 → p + 8 ≤ length bytes → name_bytes (name_at p bytes) ++ drop q bytes ≡ drop p bytes
unfolding name_bytes
name_again bytes p q e h =
    let first : drop p bytes ≡ slice_index bytes p ∷ slice_index bytes (p + 1) ∷ slice_index bytes (p + 2) ∷ slice_index bytes (p + 3) ∷ drop (p + 4) bytes = four_there bytes p (omega arith) in
    let second : drop (p + 4) bytes ≡ slice_index bytes (p + 4) ∷ slice_index bytes (p + 4 + 1) ∷ slice_index bytes (p + 4 + 2) ∷ slice_index bytes (p + 4 + 3) ∷ drop (p + 4 + 4) bytes = four_there bytes (p + 4) (omega arith) in
    let one : p + 4 + 1 ≡ p + 5 = omega arith in
    let two : p + 4 + 2 ≡ p + 6 = omega arith in
    let three : p + 4 + 3 ≡ p + 7 = omega arith in
    let four : p + 4 + 4 ≡ q = omega arith in
    sym (first ∙ ap (λ x. slice_index bytes p ∷ slice_index bytes (p + 1) ∷ slice_index bytes (p + 2) ∷ slice_index bytes (p + 3) ∷ x) (rw (one, two, three, four) at second))

-- the bytes as they stood, of a datagram of this kind
pub front_again : (kind : ℕ) (bytes : List ℕ) → 2 ≤ length bytes → eqb (slice_index bytes 0) kind ≡ true → eqb (slice_index bytes 1) 1 ≡ true → kind ∷ 1 ∷ drop 2 bytes ≡ bytes
front_again kind [] long is version = absurd (omega arith)
front_again kind (a ∷ []) long is version = absurd (omega arith)
front_again kind (a ∷ b ∷ rest) long is version =
    let ea : a ≡ kind = eqb-true _ _ is in
    let eb : b ≡ 1 = eqb-true _ _ version in
    cc

pub number_fits : (n place : ℕ) (bytes : List ℕ) → AreBytes bytes → big_endian_at n place bytes < 256 ^ n
number_fits n place bytes are = big_from-lt 0 n (drop place bytes) (bytes_after place bytes are)

pub name_sent : (place : ℕ) (bytes : List ℕ) → IsWireName (name_at place bytes)
unfolding name_bytes
name_sent place bytes = refl
